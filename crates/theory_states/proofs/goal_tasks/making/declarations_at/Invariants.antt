use Rattle.std.proofs.Common.{◌≡◌, take}
use Rattle.theory_states.specs.goal_tasks.Meaning.{placed}
use Rattle.theory_states.proofs.goal_tasks.making.declarations_at.Given as goal

abbrev pub invariant-loop-at : goal.invariant-loop-at
invariant-loop-at l = l.out.items ≡ placed l.decls (take l.at l.places)
