-- The names that the proofs of functions cite, passed on from one place. Declares nothing.
pub use Rattle.parser.proofs.parse_terms.AtomsRead.{Members, Arguments, atom_some, inner_start, members_start, paren_start, atom_none, only_paren, application_read}
pub use Rattle.parser.proofs.parse_terms.ChoicesRead.{quantifier_there, separator_start, neither, Named, branching_start}
pub use Rattle.parser.proofs.parse_terms.ClimbRead.{prefix_start, operator_within, right_can, prim_read, climb_done, climb_more, not_start, prim_start}
pub use Rattle.parser.proofs.parse_terms.Common.{◌<◌, choice, binds, None, SyntaxTrees, pattern_of_node-Var, Climb, IsBinder, right, lower, ◌+◌, form_of, of_z, pattern_of_node-Con, binding, rules, form_of_node-Group, SyntaxForms, pos, IsReadTrigger, scoped_of, lexemes, greatest, called_of, ℕ, refl, SyntaxTree, prefixed, ◌≤◌, token_at, more_forms, begins_patom, negation, patterns, subst, variable, tree_of_node-Apply, tree_of_node-Binary, tree_of_node-Cast, tree_of_node-Dot, tree_of_node-If, tree_of_node-Let, wild, composed, quantified, more, takes_infix, append_assoc, own_of, not, begins_atom, tree_of_node-Match, tree_of_node-True, IsExpr, ◌≡◌, trees, terminal_at, alternatives, CanRead, enclosed, IsAlternative, called, integer_word, ◌*◌, prec, begins_atype, branches, map, arm_of, none, truth, pattern_of_node-Wild, IsReadFields, IsReadClosed, IsReadPlain, option_map, name, trigger, forms, tree_of_node-False, ◌++◌, tree_of, tree_of_node-Group, falsity, cast, to_z, Lexeme, ◌∷◌, terms_of, ends_open, triggered, op_of, IsBranch, ap, sym, Terms, op, IsRead, same, upper_called, pattern_of_node-Group, ◌&&◌, Arm, literal, group, literal_value, arith, access, accessed, apply, cases, length, ◌-◌, true, Bool, binary, no_forms, [], IsUpperName, ◌∙◌, form_of_node-Named, types, Some, binder_of, pattern_of, aliased, at, map-append, List, false}
pub use Rattle.parser.proofs.parse_terms.FormsRead.{group_part_start, atom_start, atype_some, forms_many, constructor_start, Types, Patterns, PatternList, first_pattern_start, patom_some, patom_none, TypeList, named_start, first_type_start, pattern_group_start, named_part_start, atype_none, constant_start, group_start}
pub use Rattle.parser.proofs.parse_terms.FieldsRead.{FieldsFrom, atom_alone, atom_dots, atom_with, dot_within, field_there, fields_done, fields_more, fields_start, name_there, prim_args, prim_dots, prim_with}
pub use Rattle.parser.proofs.parse_terms.HeadsRead.{head_atom_start, head_start, plain_start}
pub use Rattle.parser.proofs.parse_terms.MatchRead.{Branched, Matched, patterned_more, alternative_done, Alternatives}
pub use Rattle.parser.proofs.parse_terms.NamesRead.{scopes_more, scopes_done, prefix_wild, type_scopes_more, opname_start, operator_start, type_name_there, TypeScopes, type_scopes_done, Scopes}
pub use Rattle.parser.proofs.parse_terms.OpenRead.{value_start, naming_more, Triggering, if_read, body_start, let_read, then_start, if_start, quantified_start, Quantified, triggering_more, quantified_body, trigger_done, quantified_read, untyped_binder, trigger_start, Bound, typed_binder, let_start, else_start}
pub use Rattle.parser.proofs.parse_terms.PartsRead.{Patterning}
pub use Rattle.parser.proofs.parse_terms.Steps.{many_more, stands_by, can_next, side_more, again, pass, only, none_of, many, stands, next, and_cases, take, stands_due, expand, follow, can_run, run_over, done, side_done, next_within, next_expr, start, side_item, side_start}
pub use Rattle.parser.proofs.parse_terms.TermSteps.{trees_many, under}
pub use Rattle.parser.proofs.parse_terms.TextsRead.{upper_own, upper_words_within, lower_own, upper_words_more, lower_word, infix_own, UpperWords, upto, upper_words_start, named_there, upper_words_done, lower_text, value_there, upper_text, prefix_own, inside}
pub use Rattle.parser.specs.parse_terms.Binders.{IsNaming}
pub use Rattle.parser.specs.parse_terms.Patterns.{IsBare}
pub use Rattle.parser.proofs.parse_terms.RecordsRead.{FormsFrom, TreesFrom, form_field_can, form_item, form_opened, forms_closed, forms_more, forms_start, tree_field_can, tree_item, tree_opened, trees_closed, trees_more, trees_start}
pub use Rattle.parser.specs.parse_terms.Records.{IsReadFormField, IsReadTreeField}
pub use Rattle.surface.specs.Forms.{fielded_form}
pub use Rattle.surface.specs.Trees.{fielded_tree}
pub use Rattle.surface.specs.Surface.{form_names, form_part_of, form_values, tree_names, tree_part_of, tree_values}
pub use Rattle.surface.proofs.TreeLemmas.{form_part_of-fields, pattern_of_node-Fields, tree_of_node-Fields, tree_part_of-fields}
