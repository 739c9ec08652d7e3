use Rattle.std.proofs.Common.{All}
use Rattle.trees.specs.Node.{Holds}
use Rattle.problem_rows.proofs.held.ids.Given as goal

abbrev pub invariant-loop-id : goal.invariant-loop-id
invariant-loop-id l = All (Holds l.store) l.all
