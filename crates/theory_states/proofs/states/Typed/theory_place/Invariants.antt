use Rattle.std.proofs.Common.{◌≡◌, ◌-◌, List, length, map, drop}
use Rattle.std.specs.List.{find}
use Rattle.trees.specs.Tree.{Tree}
use Rattle.theory_states.specs.States.{known_has_path}
use Rattle.theory_states.specs.Meaning.{known_at}
use Rattle.theory_states.proofs.states.Typed.theory_place.Given as goal

abbrev pub invariant-loop-at : goal.invariant-loop-at
invariant-loop-at l = (s : List Tree) → find (known_has_path l.path) (map (known_at s) (drop l.at l.list)) ≡ find (known_has_path l.path) (map (known_at s) l.list)

abbrev pub decreases-loop-at : goal.decreases-loop-at
decreases-loop-at l = length l.list - l.at
