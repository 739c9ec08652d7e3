use Rattle.std.proofs.Common.{take}
use Rattle.tasks.specs.Meaning.{inductive_at, InductiveHeld}
use Rattle.clones.specs.Copies.{inductive_mapped}
use Rattle.clones.proofs.Loops.{Copied}
use Rattle.clones.proofs.copies.copy_inds.Given as goal

abbrev pub invariant-loop-ind : goal.invariant-loop-ind
invariant-loop-ind l = Copied inductive_at InductiveHeld inductive_mapped l.morphism l.initial.store l.store l.known (take l.ind-index l.inds) l.out.items
