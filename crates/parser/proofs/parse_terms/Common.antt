-- The names that most proofs cite, passed on from one place. Declares nothing.
pub use Rattle.std.proofs.Common.{pos, if◌then◌else◌, nat_eq, get_or, ◌-◌, ◌*◌, slice_get, to_z, not, rules, of_z, drop}
pub use Rattle.std.proofs.lemmas.List.{get_or-map, map-append, length-take, length-map, get_or_past}
pub use Rattle.grammar.proofs.reading.Common.{Called, OperatorToken, NameRest, Headed, UpperRest, access, accessed, with_rest, applied_own, args_rows, args_rest, dots_rest, upper_head, head_rest_own, headed_tree, scopes_name, lower_called, unscoped, same_true, no_false, operators, same, first_token, joined_trees, after_minus, operand, ArmPart, named_operator, Minus, branch_of, Paren, Scoped, own_op, nothing, link, Closing, BinderPart, Chain, dotted_name, holds, scope_on, named_by, BoundPart, scope_own, stop, named_at, Dotted, attach, paren, upper_called, ReadingRow, then_row, front, row, Vals, Val, back, extend, hop_row, hparen_own, link_row, aminus_own, opname_row, prim_rows, branch_own, aparen_own, atom_rows, rows, prefix_row, opname_rows, takes_op, hminus_row, expr_own, binder_own, hminus_own, aop_row, aminus_row, find, by_row, at_end, read, blank, values_over, suc, Option, nat_le, append-nil, Bool, false, zero, refl, map, subst, append_assoc, ap, true, sym, ◌&&◌, Some, ◌∙◌, List, take, cond, None, inr, [], ◌<◌, ◌++◌, ℕ, length, inl, ◌+◌, ◌∷◌, arith, option_map, ◌⊎◌, ◌≤◌, ◌||◌, ◌≡◌, Own, lower, prefix_op, infix_op, SyntaxForm, aliased, SyntaxForms, upper, enclosed, variable, called, no_forms, more_forms, star, composed, wild, Word, Lexeme, at, said, name, SyntaxTrigger, cast, cases, quantifier, SyntaxTrees, SyntaxTree, literal, apply, group, Branches, choice, op, TypedBinder, branch, truth, binding, ends_open, binds, no_branch, prefixed, negation, more, none, binary, triggered, falsity, quantified, is_operator, right, need, is_infix, prec, is_prefix}
pub use Rattle.grammar.specs.declared.symbols.Symbol.{Symbol}
pub use Rattle.surface.specs.declared.names.Name.{Name}
pub use Rattle.tokens_why.specs.declared.terminal.Terminal.{Terminal}
pub use Rattle.parser.specs.parse_terms.Fields.{IsReadFields, IsReadPlain, is_lower_name, name_rest, name_rest_of}
pub use Rattle.parser.specs.parse_terms.Names.{IsUpperName, scoped_of}
pub use Rattle.parser.specs.parse_terms.Reading.{IsReadClosed, lexemes_from, Begun, ends_name, nowhere, least, begins_atom, is_name_at, IsExpr, begins_atype, CanRun, Climb, is_name, token_at, IsRead, CanRead, terminal_at, takes_infix, begins_patom, beyond}
pub use Rattle.parser.specs.parse_terms.Sources.{IsTextAt, lexemes}
pub use Rattle.parser.specs.parse_terms.Terms.{IsBranch, IsReadTrigger, IsAlternative, IsBinder}
pub use Rattle.parser.specs.declared.parse_terms.source.Source.{Source}
pub use Rattle.grammar.proofs.reading.Inverse.{stands, passes, is_other, stands_within, split, from_cons, row_at, plain, split_due, by_first, blanked, below_or, first_row, unread}
pub use Rattle.grammar.proofs.reading.TermRowsRead.{expr_quantifier, expr_not, opname_found, reads_aparen, expr_if, expr_prefix, expr_let}
pub use Rattle.grammar.specs.reading.Parts.{closed_group}
pub use Rattle.surface.proofs.TreeLemmas.{pattern_of_node-Wild, tree_of_node-Group, form_of_node-Group, tree_of_node-True, tree_of_node-Match, pattern_of_node-Group, pattern_of_node-Con, tree_of_node-False, tree_of_node-Apply, tree_of_node-Binary, tree_of_node-Cast, tree_of_node-Dot, tree_of_node-If, tree_of_node-Let, form_of_node-Named, pattern_of_node-Var}
pub use Rattle.surface.specs.Lexeme.{lexeme}
pub use Rattle.surface.specs.Surface.{tree_of, op_by, Terms, alternatives, types, forms, pattern_of, plain_own, terms_of, op_of, called_of, Arm, trigger, form_of, branches, integer_word, arm_of, own_of, trees, binder_of, patterns}
pub use Rattle.tokens_why.specs.Literal.{literal_value, greatest}
pub use Rattle.tokens_why.specs.Tokens.{AreTokens, whole, Reads, text_of}
pub use Rattle.tokens_why.specs.declared.token.Token.{Token}
