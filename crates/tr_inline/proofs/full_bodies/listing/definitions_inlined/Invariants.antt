use Rattle.std.proofs.Common.{◌≡◌, ◌++◌, drop}
use Rattle.tasks.specs.Meaning.{definitions_at, declarations_at}
use Rattle.inlining.specs.Inlining.{all_definitions}
use Rattle.tr_inline.specs.full_bodies.Chosen.{chosen}
use Rattle.tr_inline.specs.full_bodies.Listed.{AreDefsHeld}
use Rattle.tr_inline.proofs.full_bodies.listing.definitions_inlined.Given as goal

abbrev pub invariant-loop-decl : goal.invariant-loop-decl
invariant-loop-decl l = record {
  held : AreDefsHeld l.store l.listed.items;
  made : definitions_at l.store l.listed.items ++ chosen l.mode (all_definitions (declarations_at l.store (drop l.decl-index l.task.decls))) ≡ chosen l.mode (all_definitions (declarations_at l.store l.task.decls));
}
