use Rattle.surface.proofs.unparse.Common.{drop, map, terminals, constructor_list, constructor_tail, constructor_of}
use Rattle.surface.proofs.unparse.files.push_constructors.Given as goal
use Rattle.surface.specs.unparse.Putting.{Leaves}

abbrev pub invariant-loop-constructor : goal.invariant-loop-constructor
invariant-loop-constructor l = Leaves l.fn.out l.out (terminals (constructor_tail (map constructor_of (drop l.constructor-index l.rest)))) (terminals (constructor_list (map constructor_of l.fn.of)))
