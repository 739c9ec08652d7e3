use Rattle.std.proofs.Common.{◌≡◌, nat_eq, drop}
use Rattle.indexmap.specs.IndexMap.{get}
use Rattle.clones.specs.clone_copies.Origins.{with_axioms}
use Rattle.clones.proofs.clone_copies.origins.enter_axioms.Given as goal

abbrev pub invariant-loop-it : goal.invariant-loop-it
invariant-loop-it l = with_axioms (drop l.it-index l.axioms) (get nat_eq l.places) ≡ with_axioms l.axioms (get nat_eq l.initial.places)
