use Rattle.std.proofs.Common.{◌≡◌, List, take}
use Rattle.trees.specs.Tree.{Tree}
use Rattle.name_tables.specs.Fronts.{bodies_at}
use Rattle.name_tables.proofs.noted.have_same_bodies.Given as goal

abbrev pub invariant-loop-place : goal.invariant-loop-place
invariant-loop-place l = (s : List Tree) → bodies_at s (take l.place l.a) ≡ bodies_at s (take l.place l.b)
