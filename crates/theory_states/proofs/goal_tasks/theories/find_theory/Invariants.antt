use Rattle.std.proofs.Common.{◌≡◌, ◌-◌, length, map, drop}
use Rattle.std.specs.List.{find}
use Rattle.theory_states.specs.goal_tasks.Theories.{has_path}
use Rattle.theory_states.specs.goal_tasks.Meaning.{theory_at}
use Rattle.theory_states.proofs.goal_tasks.theories.find_theory.Given as goal

abbrev pub invariant-loop-at : goal.invariant-loop-at
invariant-loop-at l = find (has_path l.path) (map (theory_at l.store l.all.decls) (drop l.at l.list)) ≡ find (has_path l.path) (map (theory_at l.store l.all.decls) (drop l.all.embedded l.list))

abbrev pub decreases-loop-at : goal.decreases-loop-at
decreases-loop-at l = length l.list - l.at
