use Rattle.std.proofs.Common.{sym, ap, ◌∙◌, slice_get}
use Rattle.std.specs.Option.{option_and_then, option_copied}
use Rattle.step_lines.proofs.tree_lines.Gets.{slice_got}
use Rattle.step_lines.proofs.tree_lines.names.TableNames.find_entry.Goals as goal

pub returns-in-Some : goal.returns-in-Some
returns-in-Some c =
    slice_got c.get-in-Some.result c.args.table.now c.in-Some.place.now c.get-in-Some.ensures.lookup.0 c.get-in-Some.ensures.lookup.1
    ∙ ap (option_and_then (slice_get c.args.table.now)) (ap option_copied (sym c.in-Some.is) ∙ c.get.ensures.value) ∙ c.requires c.args.name.now

pub returns-in-None : goal.returns-in-None
returns-in-None c = ap (option_and_then (slice_get c.args.table.now)) (ap option_copied (sym c.in-None.is) ∙ c.get.ensures.value) ∙ c.requires c.args.name.now
