use Rattle.surface.proofs.unparse.Common.{drop, map, terminals, binder_tail, binder_list, binder_of}
use Rattle.surface.proofs.unparse.parts.push_binders.Given as goal
use Rattle.surface.specs.unparse.Putting.{Leaves}

abbrev pub invariant-loop-b : goal.invariant-loop-b
invariant-loop-b l = Leaves l.fn.out l.out (terminals (binder_tail (map binder_of (drop l.b-index l.rest)))) (terminals (binder_list (map binder_of l.fn.of)))
