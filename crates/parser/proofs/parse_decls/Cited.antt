-- The names that the proofs of functions cite, passed on from one place. Declares nothing.
pub use Rattle.parser.proofs.parse_decls.BodiesRead.{value_start, Members, claused_more, result_start, clause_read, member_params, member_result, body_start, clausing_start, member_read, with_start, body_members, prop_start, inductive_params, clause_start, inductive_read, Claused, bar_start, clauses_done, member_body}
pub use Rattle.parser.proofs.parse_decls.ClonesRead.{as_read, clone_used, elements_with, path_at, path_within, replaced_start, imported, use_start, Elements, exported, path_dot, Paths, bare, by_start, path_start, path_last}
pub use Rattle.parser.proofs.parse_decls.Common.{arith, many_more, use_decl, symbol_element, theory_of, can_next, after_paren, None, param_of, ◌+◌, form_of, again, rules, IsConstructors, IsParam, scoped_of, lexemes, decl_of_node-Function, IsReadNames, called_of, refl, inductive_of, from, ◌≤◌, algebraic_decl, element_of, token_at, use_part, decl_of_node-UseTheory, no_decls, subst, predicate_decl, pass, decl_of_node-Predicate, append_assoc, IsClauses, own_of, decl_of_node-TypeDecl, names_before_colon, clone_decl, only, variable_text, none_of, member_of, append-nil, Name, ◌≡◌, SyntaxForm, terminal_at, many, enclosed, called, type_element, stands, ◌*◌, scope_decl, ParamGroup, next, constructor_of, map, declared_name, decl_of_node-ScopeDecl, IsConstructor, param_types, and_cases, inductive_decl, option_map, name, clause_of, ◌++◌, take, stands_due, follow, expand, tree_of, IsDecl, decl_of, more_decls, done, can_run, IsTheory, AreTypeVariablesAt, body_part, algebraic_of, ◌∷◌, decl_of_node-CloneTheory, ap, decl_of_node-Constant, sym, type_decl, next_within, IsRead, read, constant_decl, same, next_expr, prop_word, ◌&&◌, decl_of_node-Algebraic, length, ◌-◌, true, param_names, function_decl, start, [], prop_kind, ◌∙◌, types, Some, symbol_word_of, decls, decl_of_node-Inductive, at, map-append, List, false, IsReadBody, IsCon, IsRecord, goes_on_with_field, record_field}
pub use Rattle.parser.proofs.parse_decls.DeclaredRead.{operator_start, prop_read}
pub use Rattle.parser.proofs.parse_decls.DeclaringRead.{constant_value, constant_type, Inductives, predicate_params, function_type, predicate_start, constant_read, predicate_body, function_params, constant_start, function_body, function_start}
pub use Rattle.parser.proofs.parse_decls.FilesRead.{prop_left, scope_within, theory_so, is_end, theory_start, theories_done, Theories, Declared, decls_many, can_file, scope_start}
pub use Rattle.parser.proofs.parse_decls.NamesThere.{made, upper_there}
pub use Rattle.parser.proofs.parse_decls.ParamsRead.{Params, listed_start, names_end, paren_param, names_over, Naming, paren_start, single_start, params_item, params_none}
pub use Rattle.parser.proofs.parse_decls.SourcesRead.{is_file, only_file}
pub use Rattle.parser.proofs.parse_decls.TypesRead.{alias_start, field_on, algebraics_done, unbarred_read, constructor_done, typed, type_name, algebraic_done, named_more, type_start, with_read, bar_read, con_start, algebraics_start, algebraic_sign, constructors_done, algebraics_more, barred_read, barred, field_item, unbarred_name, run_of, Constructors, Fields, constructors_more, Algebraics, unbarred, constructors_start, algebraic_equal, RecordFields, braced, braced_read, field_name, field_type, record_closed, record_item, record_more, record_start}
pub use Rattle.parser.proofs.parse_terms.ClimbRead.{unopen}
pub use Rattle.parser.proofs.parse_terms.CutRead.{has_texts}
pub use Rattle.parser.proofs.parse_terms.TextsRead.{lower_own, upto, named_there, lower_text, upper_text, inside}
pub use Rattle.grammar.proofs.recognise.SpanLemmas.{rest_terminals}
pub use Rattle.grammar.specs.recognise.Depth.{IsShallow}
pub use Rattle.surface.proofs.TreeLemmas.{form_of_node-Group}
pub use Rattle.surface.specs.declared.declarations.AlgTree.{AlgTree}
