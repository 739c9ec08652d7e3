use Rattle.surface.proofs.unparse.Common.{drop, map, terminals, element_tail, substitution, element_of}
use Rattle.surface.proofs.unparse.files.push_substitution.Given as goal
use Rattle.surface.specs.unparse.Putting.{Leaves}

abbrev pub invariant-loop-element : goal.invariant-loop-element
invariant-loop-element l = Leaves l.fn.out l.out (terminals (element_tail (map element_of (drop l.element-index l.rest)))) (terminals (substitution (map element_of l.fn.of)))
