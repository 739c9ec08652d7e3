use Rattle.std.proofs.Common.{take}
use Rattle.tasks.specs.Meaning.{algebraic_at, AlgebraicHeld}
use Rattle.clones.specs.Copies.{algebraic_mapped}
use Rattle.clones.proofs.Loops.{Copied}
use Rattle.clones.proofs.copies.copy_algs.Given as goal

abbrev pub invariant-loop-alg : goal.invariant-loop-alg
invariant-loop-alg l = Copied algebraic_at AlgebraicHeld algebraic_mapped l.morphism l.initial.store l.store l.known (take l.alg-index l.algs) l.out.items
