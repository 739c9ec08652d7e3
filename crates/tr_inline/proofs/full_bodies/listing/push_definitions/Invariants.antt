use Rattle.std.proofs.Common.{◌≡◌, ◌++◌, drop}
use Rattle.tasks.specs.Meaning.{definitions_at}
use Rattle.tr_inline.specs.full_bodies.Chosen.{chosen}
use Rattle.tr_inline.specs.full_bodies.Listed.{AreDefsHeld}
use Rattle.tr_inline.proofs.full_bodies.listing.push_definitions.Given as goal

abbrev pub invariant-loop-def : goal.invariant-loop-def
invariant-loop-def l = record {
  held : AreDefsHeld l.store l.listed.items;
  made : definitions_at l.store l.listed.items ++ chosen l.mode (definitions_at l.store (drop l.def-index l.defs)) ≡ definitions_at l.store l.fn.listed.items ++ chosen l.mode (definitions_at l.store l.defs);
}
