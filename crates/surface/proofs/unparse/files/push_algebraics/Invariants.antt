use Rattle.surface.proofs.unparse.Common.{drop, map, terminals, algebraic_list, algebraic_tail, algebraic_of}
use Rattle.surface.proofs.unparse.files.push_algebraics.Given as goal
use Rattle.surface.specs.unparse.Putting.{Leaves}

abbrev pub invariant-loop-algebraic : goal.invariant-loop-algebraic
invariant-loop-algebraic l = Leaves l.fn.out l.out (terminals (algebraic_tail (map algebraic_of (drop l.algebraic-index l.rest)))) (terminals (algebraic_list (map algebraic_of l.fn.of)))
