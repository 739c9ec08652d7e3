-- The names that most proofs cite, passed on from one place. Declares nothing.
pub use Rattle.parser.proofs.parse_terms.Common.{same_true, same, scoped_of, token_at, IsRead, lexemes_from, Begun, nowhere, CanRead, terminal_at, IsExpr, begins_atype, CanRun, lexemes, IsTextAt, passes, by_first, stands_within, below_or, from_cons, first_row, scope_own, Dotted, Scoped, own_op, Vals, Val, ReadingRow, then_row, row, extend, rows, find, read, blank, List, suc, Option, None, if◌then◌else◌, inr, nat_le, append-nil, [], Bool, ◌<◌, false, zero, refl, map, ◌++◌, subst, ℕ, length, inl, ◌+◌, not, ◌∷◌, arith, append_assoc, ap, ◌-◌, ◌⊎◌, option_map, rules, ◌≤◌, true, sym, ◌&&◌, ◌||◌, ◌≡◌, ◌*◌, Some, ◌∙◌, get_or_past, map-append, enclosed, lower, SyntaxForm, called, no_forms, more_forms, SyntaxForms, composed, lexeme, Word, name, Lexeme, at, tree_of, called_of, form_of, types, own_of, forms, SyntaxTree}
pub use Rattle.grammar.specs.declared.symbols.Symbol.{Symbol}
pub use Rattle.surface.specs.declared.names.Name.{Name}
pub use Rattle.tokens_why.specs.declared.terminal.Terminal.{Terminal}
pub use Rattle.parser.specs.parse_decls.Bodies.{IsReadMember, IsResult, body_part, IsReadValue, IsDecl}
pub use Rattle.parser.specs.parse_decls.Clauses.{clauses_part, IsClause, IsReadInductive, clause_part, IsClauses}
pub use Rattle.parser.specs.parse_decls.Clones.{symbol_word_of, begins_symbol, prop_kind}
pub use Rattle.parser.specs.parse_decls.Files.{IsReadFile, begins_theory, IsTheory}
pub use Rattle.parser.specs.parse_decls.Params.{IsParam, begins_names, names_before_colon}
pub use Rattle.parser.specs.parse_decls.Types.{constructor_at, IsReadAlgebraic, IsCon, fields_part, begins_constructor, IsConstructor, alg_part, con_part, AreTypeVariablesAt, IsReadNames, IsConstructors, IsReadBody, IsRecord, begins_algebraic, record_part}
pub use Rattle.parser.proofs.parse_terms.Steps.{stands, pass, missed, again, take, next_expr, can_run, stands_by, reread, begins, only, many, extended, start, next_within, stands_due, can_next, and_cases, many_more, next, done, extended_due, follow, none_of, unexpand, expand}
pub use Rattle.parser.proofs.parse_terms.TextsRead.{lower_own, variable_text, upper_text}
pub use Rattle.parser.specs.parse_terms.Reading.{from, goes_on_with_field}
pub use Rattle.grammar.proofs.reading.Inverse.{from_end}
pub use Rattle.grammar.specs.reading.DeclParts.{new_member, name_names, NamePart, TvarsPart, param, AlgPart, ClausesPart, with_constructor, after_paren, param_types, FieldsPart, is_algebraic, with_clause, scope_of, prop_called, typed_as, upper_type, name_before, new_inductive, new_algebraic, scope_called, param_names, ParamPart, name_types, is_alias, VarsPart, fields_of, record_field, next_field, with_fields}
pub use Rattle.grammar.specs.reading.Rows.{axioms_own, pparen_own, use_part, param_own, upper_own, fields_rows, fields_own, cloned, axioms_of, record_next_own}
pub use Rattle.surface.proofs.DeclLemmas.{decl_of_node-Function, decl_of_node-Inductive, decl_of_node-Algebraic, decl_of_node-Prop, decl_of_node-Constant, decl_of_node-Predicate, decl_of_node-TypeDecl, decl_of_node-CloneTheory, decl_of_node-UseTheory, decl_of_node-ScopeDecl}
pub use Rattle.surface.specs.Declarations.{ParamGroup, Member, inductive_decl, algebraic_decl, type_element, prop_word, Element, clone_decl, no_decls, use_decl, more_decls, scope_decl, type_decl, function_decl, Constructor, Algebraic, prop_decl, SyntaxDeclarations, prop_element, symbol_element, constant_decl, Inductive, all_axioms, predicate_decl, SyntaxDeclaration, SyntaxTheory, Clause}
pub use Rattle.surface.specs.Forms.{Called, type_variable}
pub use Rattle.surface.specs.SurfaceDeclarations.{theory_of, inductive_of, decl_of, algebraic_of, clause_of, decls, param_of, constructor_of, plain_name, element_of, declared_name, member_of}
