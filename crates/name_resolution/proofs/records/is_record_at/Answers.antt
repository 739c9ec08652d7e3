use Rattle.std.proofs.Common.{sym, ap, ◌∙◌}
use Rattle.std.specs.Option.{option_copied}
use Rattle.name_resolution.specs.Records.{is_record}
use Rattle.name_resolution.proofs.Fielded.{entry_got, no_entry}
use Rattle.name_resolution.proofs.records.is_record_at.Goals as goal

pub returns-in-Some : goal.returns-in-Some
returns-in-Some c s = c.is_record.ensures s ∙ ap is_record (sym (entry_got s c.args.symbols.now c.args.number c.in-Some.info.now (sym c.info_at.ensures ∙ ap option_copied c.in-Some.is)))

pub returns-in-None : goal.returns-in-None
returns-in-None c s = ap is_record (sym (no_entry s c.args.symbols.now c.args.number (sym c.info_at.ensures ∙ ap option_copied c.in-None.is)))
