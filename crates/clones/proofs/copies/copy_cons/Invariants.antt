use Rattle.std.proofs.Common.{take}
use Rattle.tasks.specs.Meaning.{con_at, ConHeld}
use Rattle.clones.specs.Copies.{con_mapped}
use Rattle.clones.proofs.Loops.{Copied}
use Rattle.clones.proofs.copies.copy_cons.Given as goal

abbrev pub invariant-loop-con : goal.invariant-loop-con
invariant-loop-con l = Copied con_at ConHeld con_mapped l.morphism l.initial.store l.store l.known (take l.con-index l.cons) l.out.items
