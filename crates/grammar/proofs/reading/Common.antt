-- The names that most proofs cite, passed on from one place. Declares nothing.
pub use Rattle.std.proofs.Common.{lit≤, append-nil}
pub use Rattle.std.proofs.lemmas.Bool.Decides.{nat_tests}
pub use Rattle.std.specs.Bool.{⊤}
pub use Rattle.grammar.proofs.Common.{terminal_number, operators, same, complete, may_end, is_taken, next_stack, is_safe, sealed, ends, accepts, run, is_seal, step, on_top, suc, Option, add-one, drop-cons, nat_le, Bool, false, zero, refl, map, subst, append_assoc, ap, true, sym, ◌&&◌, Some, ◌∙◌, List, take, cond, None, inr, [], ◌<◌, ◌++◌, ℕ, length, inl, ◌+◌, ◌∷◌, arith, option_map, ◌⊎◌, ◌≤◌, ◌||◌, ◌≡◌, right, need, is_infix, prec}
pub use Rattle.grammar.specs.declared.symbols.Symbol.{Symbol}
pub use Rattle.tokens_why.specs.declared.terminal.Terminal.{Terminal}
pub use Rattle.grammar.proofs.Laws.{same_refl, and_right, and_both, and_left, accepted_begins, same_true, no_false, begun_completes}
pub use Rattle.grammar.proofs.Tails.{infix_among, among, all_infix}
pub use Rattle.grammar.specs.Machine.{is_tail}
pub use Rattle.grammar.specs.reading.DeclParts.{name_names, ClausePart, TypePart, ClausesPart, FieldsPart, param_types, name_before, BodyPart, UsedPart, ParamPart, MemberPart, name_types, ConPart, fields_of, new_constructor, new_member, NamePart, TvarsPart, ClonedPart, param, UpperPart, AlgPart, after_paren, is_algebraic, with_clause, path_on, scope_of, prop_called, typed_as, upper_type, new_inductive, new_algebraic, param_names, is_alias, lone, VarsPart, RecordPart, record_field, next_field, with_fields}
pub use Rattle.grammar.specs.reading.Parts.{FormFields, TreeFields, next_form, next_field_tree, record_form, record_tree, Scoped, scope_own, closed_group, NameRest, UpperRest, accessed, with_rest, args_rest, dots_rest, headed_tree, scopes_name, lower_called, unscoped, first_token, cast_to, joined_trees, after_minus, operand, closes_group, ArmPart, named_operator, Minus, branch_of, Paren, Headed, own_op, nothing, link, Closing, BinderPart, next_term, Chain, upper_called, holds, dotted_name, CasesPart, scope_on, named_by, BoundPart, upper_head, stop, named_at, TermsPart, Dotted, binder_with, attach, paren, BranchPart, LetPart}
pub use Rattle.grammar.specs.reading.Row.{ReadingRow, then_row, front, row, Vals, Val, back, extend}
pub use Rattle.grammar.specs.reading.Rows.{applied_own, args_rows, head_rest_own, pname_args, hop_row, hparen_own, link_row, aminus_own, opname_row, prim_rows, branch_own, aparen_own, atom_rows, use_part, rows, open_rows, cloned, axioms_of, prefix_row, prop_row, expr_rows, opname_rows, not_rows, takes_op, axioms_own, symbol_row, hminus_row, expr_own, pparen_own, qop_own, upper_own, path_end, fields_own, file_row, binder_own, hminus_own, tail_rows, tmore_rows, aop_row, aminus_row, record_next_own}
pub use Rattle.grammar.specs.reading.Sentences.{IsNone, IsLongestTree, Begins, CanStand, AllStand, IsOnly, IsLeastFault}
pub use Rattle.grammar.specs.reading.Values.{find, with_blank, by_row, at_end, read, blank, values_over}
pub use Rattle.surface.specs.DeclarationRules.{AreLevelDecls, PlacedRenamed, PlacedElement, IsLevelDecl, AreParams, IsOptionalDefinition, PlacedParams, PlacedConstructors, IsDefined, AreConstructors, PlacedTyped, AreAlgebraic, IsMember, AreClauses, IsProp, PlacedInductives, IsNewSymbol, IsLink, AreInductive, IsTypedParam, PlacedInductive, PlacedFile, AreElements, IsElement, PlacedMembers, PlacedMember, IsSymbolName, PlacedDefinition, IsLevelFile, AreMembers, PlacedDecl, PlacedElements, IsNewProp, PlacedAlgebraics, PlacedDecls, PlacedClauses, IsOneName, AreFields, IsTypeBody, PlacedFields, PlacedTypeBody}
pub use Rattle.surface.specs.Declarations.{algebraic_decl, type_element, prop_word, Element, algebraic_tail, symbol_word, element_tail, clone_decl, no_decls, constructor_tail, inductive_tail, write_file, more_decls, algebraic_list, constructor_list, Algebraic, param_row, link_words, clause_list, constant_decl, write_path, all_axioms, write_decl, path_from, predicate_decl, SyntaxTheory, write_member, write_algebraic, clause_tail, write_inductive, Member, ParamGroup, inductive_decl, write_clause, use_decl, substitution, scope_decl, type_decl, variable_row, function_decl, Constructor, heading, prop_decl, SyntaxDeclarations, prop_element, symbol_element, write_constructor, type_equation, Inductive, typed_names, write_element, definition, inductive_list, SyntaxDeclaration, write_theory, renamed, write_param, other_members, Clause, write_decls, write_field, field_tail, write_type_body}
pub use Rattle.surface.specs.Forms.{AreNamedForms, HasForm, IsLowerName, PlacedFieldForms, fielded_form, form_fields, form_fields_tail, semicolon_after, PlacedRow, Own, form_list, form_row, write_called, lower, IsHead, prefix_op, infix_op, SyntaxForm, write_form, aliased, AreParts, type_forms, SyntaxForms, form_tail, upper, Called, type_variable, PlacedList, IsForm, enclosed, variable, write_own, AreForms, called, no_forms, scoped, more_forms, IsUnnamed, FormKind, star, past, IsPlaced, composed, wild, pattern_forms, IsFormPart}
pub use Rattle.surface.specs.Lexeme.{Word, rest, Lexeme, at, said, terminals, mark, lx, name, lexeme_by}
pub use Rattle.surface.specs.Trees.{AreNamedTrees, PlacedFieldTrees, fielded_tree, tree_fields, tree_fields_tail, IsPlainTerm, access, separator, AreLevel, IsOwn, AreAlternatives, SyntaxTrigger, write_row, write_branches, PlacedBinder, IsAtom, cast, AreTerms, cases, alternative_list, quantifier, write_trigger, SyntaxTrees, SyntaxTree, literal, PlacedBranches, apply, alternative_tail, PlacedBinders, AreAtoms, HasSomeTree, group, Branches, choice, PlacedPart, op, terms_tail, TypedBinder, AreBinders, binder_tail, write_others, PlacedTrees, branch, truth, binding, ends_open, binds, tight, PlacedNames, bar_before, no_branch, prefixed, negation, write, HasSome, AreBranches, PlacedTrigger, type_part, IsTrigger, PlacedAlternatives, OperatorToken, more, write_op, write_binder, none, IsTypePart, binary, binder_list, IsLevel, triggered, untriggered, PlacedCommas, write_tail, MayBeMarked, falsity, name_row, HasBranch, quantified, IsPlacedTree, write_list}
pub use Rattle.surface.specs.declared.declarations.Link.{Link}
pub use Rattle.surface.specs.declared.declarations.PropKind.{PropKind}
pub use Rattle.surface.specs.declared.names.At.{At}
pub use Rattle.surface.specs.declared.names.Name.{Name}
pub use Rattle.tokens_why.specs.Operators.{is_operator, is_prefix}
pub use Rattle.tokens_why.specs.Terminals.{terminal_of, kind_by}
