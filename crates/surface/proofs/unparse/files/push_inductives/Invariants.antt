use Rattle.surface.proofs.unparse.Common.{drop, map, terminals, inductive_list, inductive_tail, inductive_of}
use Rattle.surface.proofs.unparse.files.push_inductives.Given as goal
use Rattle.surface.specs.unparse.Putting.{Leaves}

abbrev pub invariant-loop-inductive : goal.invariant-loop-inductive
invariant-loop-inductive l = Leaves l.fn.out l.out (terminals (inductive_tail (map inductive_of (drop l.inductive-index l.rest)))) (terminals (inductive_list (map inductive_of l.fn.of)))
