use Rattle.std.proofs.Common.{◌≡◌, List, drop}
use Rattle.tasks.specs.trees.Tree.{Tree}
use Rattle.tasks.specs.Meaning.{declarations_at}
use Rattle.tr_discriminate.specs.wanted_instances.Discriminated.{misplaced_from}
use Rattle.tr_discriminate.proofs.discriminate.misplaced.Given as goal

abbrev pub invariant-loop-place : goal.invariant-loop-place
invariant-loop-place l = (s : List Tree) → misplaced_from 0 (declarations_at s l.decls) ≡ misplaced_from l.place (declarations_at s (drop l.place l.decls))
