-- The names that most proofs cite, passed on from one place. Declares nothing.
pub use Rattle.std.proofs.Common.{List, ◌++◌, ◌∷◌, arith, [], drop, ◌≡◌, refl, map, ◌∙◌}
pub use Rattle.std.proofs.lemmas.Grind.{common_steps}
pub use Rattle.surface.proofs.TreeLemmas.{tree_of_node-Int, tree_of_node-Let, tree_of_node-Not, pattern_of_node-Wild, tree_of_node-Group, tree_of_node-True, tree_of_node-Prefix, tree_is, pattern_of_node-Group, tree_of_node-If, pattern_of_node-Con, tree_of_node-False, pattern_of_node-Alias, form_of_node-Named, form_of_node-Var, tree_of_node-Apply, tree_of_node-Binary, pattern_of_node-Var, form_is, terms_of-fields, tree_of_node-Quant, arm_of-fields, tree_of_node-Match, tree_of_node-Dot, tree_of_node-Fields, tree_part_of-fields, pattern_of_node-Fields, form_part_of-fields, tree_of_node-Cast, pattern_is, form_of_node-Group}
pub use Rattle.surface.specs.Declarations.{write_path, algebraic_tail, element_tail, constructor_tail, inductive_tail, field_tail, write_type_body, write_file, inductive_list, path_from, substitution, algebraic_list, variable_row, constructor_list, param_row, other_members, clause_tail, clause_list, write_decls}
pub use Rattle.surface.specs.Forms.{form_fields, form_fields_tail, semicolon_after, form_row, form_list, scoped, form_tail}
pub use Rattle.surface.specs.Lexeme.{Word, terminals}
pub use Rattle.surface.specs.Surface.{form_names, form_part_of, form_values, tree_names, tree_part_of, tree_values, pattern_of, tree_of, arm_of, trees, binder_of, forms, alternatives, form_of, branches}
pub use Rattle.surface.specs.SurfaceDeclarations.{theory_of, constructor_of, inductive_of, decl_of, algebraic_of, element_of, clause_of, decls, param_of, member_of}
pub use Rattle.surface.specs.Trees.{tree_fields, tree_fields_tail, alternative_list, write_terms, binder_list, alternative_tail, write_tail, name_row, write_row, terms_tail, write_branches, binder_tail, write_others, write_list}
