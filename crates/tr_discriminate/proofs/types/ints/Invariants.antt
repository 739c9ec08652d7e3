use Rattle.std.proofs.Common.{◌≡◌}
use Rattle.tasks.specs.Meaning.{trees_at}
use Rattle.trees.specs.binders.Visits.{HoldTypes}
use Rattle.tr_discriminate.specs.Found.{ints}
use Rattle.tr_discriminate.proofs.types.ints.Given as goal

abbrev pub invariant-loop-i : goal.invariant-loop-i
invariant-loop-i l = record {
  held : HoldTypes l.store l.types.items;
  trees : trees_at l.store l.types.items ≡ ints l.i;
}
