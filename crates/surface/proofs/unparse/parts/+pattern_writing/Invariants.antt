use Rattle.surface.proofs.unparse.Common.{drop, map, terminals, form_row, form_list, form_tail, form_fields, form_fields_tail, form_part_of, form_names, form_values, pattern_of, forms}
use Rattle.surface.proofs.unparse.parts.+pattern_writing.Given as goal
use Rattle.surface.specs.unparse.Putting.{Leaves}

abbrev pub invariant-push_parts-loop-p : goal.invariant-push_parts-loop-p
invariant-push_parts-loop-p l = Leaves l.fn.out l.out (terminals (form_row (forms (map pattern_of (drop l.p-index l.of))))) (terminals (form_row (forms (map pattern_of l.of))))

abbrev pub invariant-push_patterns-loop-p : goal.invariant-push_patterns-loop-p
invariant-push_patterns-loop-p l = Leaves l.fn.out l.out (terminals (form_tail (forms (map pattern_of (drop l.p-index l.rest))))) (terminals (form_list (forms (map pattern_of l.fn.of))))

abbrev pub invariant-push_field_patterns-loop-field : goal.invariant-push_field_patterns-loop-field
invariant-push_field_patterns-loop-field l = Leaves l.fn.out l.out (terminals (form_fields_tail (form_names (map form_part_of (drop l.field-index l.rest))) (form_values (map form_part_of (drop l.field-index l.rest))))) (terminals (form_fields (form_names (map form_part_of l.fn.of)) (form_values (map form_part_of l.fn.of))))
