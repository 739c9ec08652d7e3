use Rattle.surface.proofs.unparse.Common.{drop, map, terminals, form_row, form_list, form_tail, form_of, forms}
use Rattle.surface.proofs.unparse.parts.+type_writing.Given as goal
use Rattle.surface.specs.unparse.Putting.{Leaves}

abbrev pub invariant-push_types-loop-t : goal.invariant-push_types-loop-t
invariant-push_types-loop-t l = Leaves l.fn.out l.out (terminals (form_row (forms (map form_of (drop l.t-index l.of))))) (terminals (form_row (forms (map form_of l.of))))

abbrev pub invariant-push_listed_types-loop-t : goal.invariant-push_listed_types-loop-t
invariant-push_listed_types-loop-t l = Leaves l.fn.out l.out (terminals (form_tail (forms (map form_of (drop l.t-index l.rest))))) (terminals (form_list (forms (map form_of l.fn.of))))
