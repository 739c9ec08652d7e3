use Rattle.std.proofs.Common.{sym, ◌∙◌}
use Rattle.tasks.specs.Meaning.{symbol_at}
use Rattle.name_resolution.proofs.Fielded.{then_after, no_record, count_args}
use Rattle.name_resolution.proofs.records.is_field_of.Goals as goal

pub returns-then-not-is_record : goal.returns-then-not-is_record
returns-then-not-is_record c s = no_record (symbol_at s c.args.info.now) c.args.owner c.args.number (sym (c.is_record.ensures s) ∙ c.if-not-is_record.true)

pub returns : goal.returns
returns c s = then_after (symbol_at s c.args.info.now) c.args.owner c.args.number c.len.result (sym (c.is_record.ensures s) ∙ c.if-not-is_record.false) c.if-number-owner.false (c.len.ensures ∙ sym (count_args s c.args.info.now))
