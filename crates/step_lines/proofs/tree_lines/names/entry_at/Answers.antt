use Rattle.step_lines.proofs.tree_lines.Gets.{slice_got}
use Rattle.step_lines.proofs.tree_lines.names.entry_at.Goals as goal

pub returns : goal.returns
returns c = slice_got c.get.result c.args.table.now c.args.place c.get.ensures.lookup.0 c.get.ensures.lookup.1
