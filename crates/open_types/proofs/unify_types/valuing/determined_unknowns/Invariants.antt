use Rattle.trees.specs.Node.{Grows}
use Rattle.open_types.specs.unify_types.Valued.{AreValued}
use Rattle.open_types.proofs.unify_types.valuing.determined_unknowns.Given as goal

abbrev pub invariant-loop-i : goal.invariant-loop-i
invariant-loop-i l = record {
  grows : Grows l.fn.store l.store;
  valued : AreValued l.rigid l.store l.bindings l.known l.values l.i;
}
