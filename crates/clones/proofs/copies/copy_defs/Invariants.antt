use Rattle.std.proofs.Common.{take}
use Rattle.tasks.specs.Meaning.{definition_at}
use Rattle.clones.specs.Copies.{DefHeld}
use Rattle.clones.specs.Copies.{definition_mapped}
use Rattle.clones.proofs.Loops.{Copied}
use Rattle.clones.proofs.copies.copy_defs.Given as goal

abbrev pub invariant-loop-def : goal.invariant-loop-def
invariant-loop-def l = Copied definition_at DefHeld definition_mapped l.morphism l.initial.store l.store l.known (take l.def-index l.defs) l.out.items
