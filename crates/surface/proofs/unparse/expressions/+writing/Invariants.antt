use Rattle.surface.proofs.unparse.Common.{drop, map, terminals, write_row, write_list, write_tail, write_branches, write_others, write_terms, terms_tail, tree_names, tree_part_of, tree_values, tree_fields, tree_fields_tail, tree_of, arm_of, trees, branches}
use Rattle.surface.proofs.unparse.expressions.+writing.Given as goal
use Rattle.surface.specs.unparse.Putting.{Leaves}

abbrev pub invariant-push_row-loop-e : goal.invariant-push_row-loop-e
invariant-push_row-loop-e l = Leaves l.fn.out l.out (terminals (write_row (trees (map tree_of (drop l.e-index l.exprs))))) (terminals (write_row (trees (map tree_of l.exprs))))

abbrev pub invariant-push_list-loop-e : goal.invariant-push_list-loop-e
invariant-push_list-loop-e l = Leaves l.fn.out l.out (terminals (write_tail (trees (map tree_of (drop l.e-index l.rest))))) (terminals (write_list (trees (map tree_of l.fn.exprs))))

abbrev pub invariant-push_branches-loop-arm : goal.invariant-push_branches-loop-arm
invariant-push_branches-loop-arm l = Leaves l.fn.out l.out (terminals (write_others (branches (map arm_of (drop l.arm-index l.rest))))) (terminals (write_branches (branches (map arm_of l.fn.arms))))

abbrev pub invariant-push_terms-loop-e : goal.invariant-push_terms-loop-e
invariant-push_terms-loop-e l = Leaves l.fn.out l.out (terminals (terms_tail (trees (map tree_of (drop l.e-index l.rest))) l.left)) (terminals (write_terms (trees (map tree_of l.fn.terms)) l.fn.bars))

abbrev pub invariant-push_field_values-loop-field : goal.invariant-push_field_values-loop-field
invariant-push_field_values-loop-field l = Leaves l.fn.out l.out (terminals (tree_fields_tail (tree_names (map tree_part_of (drop l.field-index l.rest))) (tree_values (map tree_part_of (drop l.field-index l.rest))))) (terminals (tree_fields (tree_names (map tree_part_of l.fn.of)) (tree_values (map tree_part_of l.fn.of))))
