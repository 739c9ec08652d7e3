use Rattle.std.proofs.Common.{◌≡◌, ◌++◌, List, drop}
use Rattle.tasks.specs.trees.Tree.{Tree}
use Rattle.tasks.specs.Meaning.{declarations_at}
use Rattle.theory_states.specs.Meaning.{known_at}
use Rattle.clones.specs.clone_copies.Origins.{own_among, own_places}
use Rattle.clones.proofs.clone_copies.origins.own_places.Given as goal

abbrev pub invariant-loop-place : goal.invariant-loop-place
invariant-loop-place l = (s : List Tree) → l.own.items ++ own_among (declarations_at s l.decls) l.known.theory.path (drop l.place-index l.known.theory.visible) ≡ own_places (declarations_at s l.decls) (known_at s l.known)
