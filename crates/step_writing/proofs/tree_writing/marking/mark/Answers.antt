use Rattle.std.proofs.Common.{true, refl}
use Rattle.std.proofs.Math.ListN.{set}
use Rattle.step_writing.proofs.tree_writing.MarkedParts.{marks_set}
use Rattle.step_writing.proofs.tree_writing.marking.mark.Goals as goal

pub returns : goal.returns
returns c = marks_set c.args.marks.now.items (set c.args.marks.now.items c.args.id.0 true) c.args.id.0 c.requires refl
