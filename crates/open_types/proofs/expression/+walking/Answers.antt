use Rattle.std.proofs.Common.{◌≡◌, ℕ, IfOk, subst, ◌+◌, [], ◌∷◌, ◌++◌, List, map, reverse, Option, Some, None, option_map, length, true, false, refl, sym, ap, ◌∙◌, arith}
use Rattle.std.proofs.lemmas.Result.{IfOk-weaker, on_ok_weaker}
use Rattle.std.proofs.lemmas.List.Elements.{All-nil}
use Rattle.std.specs.Option.{option_copied}
use Rattle.trees.specs.Tree.{Tree, One, Two, HNot, HJoin, HLet, head_of}
use Rattle.trees.specs.Node.{tree_at}
use Rattle.trees.proofs.Nodes.{Grows_refl, Grows_trans}
use Rattle.tasks.specs.Meaning.{trees_at}
use Rattle.tasks.specs.declared.signature.SymbolInfo.{SymbolInfo}
use Rattle.surface.specs.Lexeme.{Word}
use Rattle.surface.specs.Surface as code
use Rattle.surface.specs.Surface.{own_of}
use Rattle.surface.specs.declared.expressions.BranchTree.{BranchTree}
use Rattle.surface.specs.declared.expressions.Expr.{Expr}
use Rattle.surface.specs.declared.patterns.Pat.{Pat}
use Rattle.name_resolution.specs.declared.NamingFault.TheVariants.{WrongKind}
use Rattle.name_resolution.specs.Abstract.{value_fields_of, field_values_of, Expression, MatchBranches, match_expression, text_of_own, applied_expression, grouped, connective_operator, equality_operator, symbol_operator, more_expressions, no_expressions, type_expression_of, expression_of, expressions_of, binders_of, triggers_of, branches_of, no_alternatives, more_alternatives, more_branches, no_branches, first_tree, first_form, side_by_side, alternatives_of}
use Rattle.name_resolution.specs.Faults.{fault}
use Rattle.name_resolution.specs.Naming.{where_at, operation_at}
use Rattle.name_resolution.proofs.Nodes.{triggers_at-Some, expression_at-Apply, expression_at-Int, expression_at-True, expression_at-False, expression_at-Cast, expression_at-Dot, expression_at-Fields, expression_at-Not, expression_at-If, expression_at-Group, expression_at-Prefix, expression_at-Quant, expression_at-Match}
use Rattle.name_resolution.proofs.SameNames.{fault_same}
use Rattle.name_resolution.proofs.Operated.{operated_as, bound_as, matched_as}
use Rattle.name_resolution.proofs.Told.{counted, group_one, group_many}
use Rattle.open_types.specs.Patterns.{noted, taken, local, first_or_int, alternatives_pieces, all_notes, first_variables}
use Rattle.open_types.specs.Pieces.{piece, branches_arms, unknown_after, unknown, type_at, triggers_notes, bound, binders_vars, wanting}
use Rattle.open_types.specs.Pieces as of
use Rattle.open_types.specs.Sizes.{size_of, sizes_of, values_size, branches_size}
use Rattle.open_types.specs.Drafts.{SymbolTyped, symbol_got, IsWalked, AreArms, due, names_of_locals, local_at, locals_at, operands_at, is_due}
use Rattle.open_types.proofs.Growing.{ready_grows, type_stays, types_stay, types_grow, wanted_stays, wanted_grows, type_grows, world_stays, locals_stay, locals_grow, each_stays, each_grows}
use Rattle.open_types.proofs.Noting.{next, matches_more, no_elements, nothing_noted, noted_after, noted_as}
use Rattle.open_types.proofs.Walking.{must_be, not_if, set_on, set_inside, go_on, go_inside, as_begun, as_inside, one_held, one_inside, walked_bare, walked_under, walked_both, walked_choice, walked_after, formula_due, term_due, in_cast, in_negation, in_joined, in_equated, in_choice, in_binding, choice_fits, choice_sort, let_fits, let_sort, grown_sort, yields_due, is_expression}
use Rattle.open_types.proofs.Applying.{can_as, apply_same, can_infix, can_use, can_tuple, can_field, can_record, first_size, quantified_due, can_quantify, equality_sort, ifok_both, ifok_three}
use Rattle.open_types.proofs.Arguments.{term_of_local, local_walked, symbol_walked, entry_got, got_one, go_all, go_first, go_rest, as_rest, walked_end, walked_cell, cell_fits, used_walked}
use Rattle.open_types.proofs.Quantified.{in_quantified, inside_names, inside_held, inside_locals, next_unknown, triggers_as, quantified_walked, in_triggers, trigger_walked}
use Rattle.open_types.proofs.Branching.{in_cases, has_arm, case_fits, in_branches, in_alternatives, as_arms, branch_names, branch_held, branch_locals, branch_walked, branch_dropped, no_arms, match_walked, numbers_held, ids_grow, patterns_grow}
use Rattle.open_types.proofs.Fielding.{record_walked, record_written}
use Rattle.open_types.proofs.Sizing.{some_size, branches_split, size_at-Apply, size_at-Group, size_at-Cast, size_at-Dot, size_at-Fields, size_at-Prefix, size_at-Not, size_at-Binary, size_at-If, size_at-Let, size_at-Quant, size_at-Match, triggers_size-Some}
use Rattle.open_types.proofs.expression.+walking.Goals as goal

-- ---- uses
pub walk-walk_use-requires : goal.walk-walk_use-requires
walk-walk_use-requires t c =
    let is = expression_at-Apply c.args.e.now c.in-Apply.name c.in-Apply.arguments c.in-Apply.is in
    let own = c.as_slice-in-Apply-2.ensures ∙ c.in_ok-own-in-Apply.ensures ∙ ap (λ (x : Word). text_of_own (own_of c.in-Apply.name.style x)) c.as_slice.ensures in
    let same = apply_same c.args.e.now.at.main c.as_slice-scopes.ensures own (ap expressions_of c.as_slice-in-Apply.ensures) in
    (omega (arith, size_at-Apply c.args.e.now c.in-Apply.name c.in-Apply.arguments c.in-Apply.is, ap sizes_of c.as_slice-in-Apply.ensures), can_as (is ∙ sym same) c.requires)

pub walk-returns-in_ok-own-in-Apply-clause-walked : goal.walk-returns-in_ok-own-in-Apply-clause-walked
walk-returns-in_ok-own-in-Apply-clause-walked t c =
    let is = expression_at-Apply c.args.e.now c.in-Apply.name c.in-Apply.arguments c.in-Apply.is in
    let own = c.as_slice-in-Apply-2.ensures ∙ c.in_ok-own-in-Apply.ensures ∙ ap (λ (x : Word). text_of_own (own_of c.in-Apply.name.style x)) c.as_slice.ensures in
    let same = apply_same c.args.e.now.at.main c.as_slice-scopes.ensures own (ap expressions_of c.as_slice-in-Apply.ensures) in
    rw (is ∙ sym same) c.walk_use.ensures.walked

pub walk-walk_use-requires-in-Prefix : goal.walk-walk_use-requires-in-Prefix
walk-walk_use-requires-in-Prefix t c =
    let is = expression_at-Prefix c.args.e.now c.in-Prefix.op c.in-Prefix.inner c.in-Prefix.is in
    let same = apply_same c.args.e.now.at.main {qs = []} {qs' = []} refl (c.as_slice-in-Prefix.ensures ∙ c.in_ok-own-in-Prefix.ensures) (ap (λ (x : Expr). more_expressions (expression_of x) no_expressions) c.get-in-Prefix.ensures) in
    (omega (arith, size_at-Prefix c.args.e.now c.in-Prefix.op c.in-Prefix.inner c.in-Prefix.is, ap size_of c.get-in-Prefix.ensures), can_as (is ∙ sym same) c.requires)

pub walk-returns-in_ok-own-in-Prefix-clause-walked : goal.walk-returns-in_ok-own-in-Prefix-clause-walked
walk-returns-in_ok-own-in-Prefix-clause-walked t c =
    let is = expression_at-Prefix c.args.e.now c.in-Prefix.op c.in-Prefix.inner c.in-Prefix.is in
    let same = apply_same c.args.e.now.at.main {qs = []} {qs' = []} refl (c.as_slice-in-Prefix.ensures ∙ c.in_ok-own-in-Prefix.ensures) (ap (λ (x : Expr). more_expressions (expression_of x) no_expressions) c.get-in-Prefix.ensures) in
    rw (is ∙ sym same) c.walk_use-in-Prefix.ensures.walked

-- an operator between two
two_operands : {a a' b b' : Expr} → a ≡ a' → b ≡ b' → more_expressions (expression_of a) (more_expressions (expression_of b) no_expressions) ≡ more_expressions (expression_of a') (more_expressions (expression_of b') no_expressions)
two_operands p q = cc

pub walk-walk_use-requires-in-Symbol : goal.walk-walk_use-requires-in-Symbol
walk-walk_use-requires-in-Symbol t c =
    let is = operated_as c.args.e.now c.in-Binary.left c.in-Binary.op c.in-Binary.right c.in-Binary.is (symbol_operator c.in-Symbol.name.now) (sym c.infix_operation.ensures ∙ ap operation_at c.in-Symbol.is) in
    let same = two_operands c.get-in-Symbol.ensures c.get-in-Symbol-2.ensures in (
      omega (arith, size_at-Binary c.args.e.now c.in-Binary.left c.in-Binary.op c.in-Binary.right c.in-Binary.is, ap size_of c.get-in-Symbol.ensures, ap size_of c.get-in-Symbol-2.ensures),
      can_as (sym (ap (applied_expression c.args.e.now.at.main [] c.in-Symbol.name.now) same)) (can_infix c.args.e.now.at.main c.in-Symbol.name.now (expression_of c.in-Binary.left) (expression_of c.in-Binary.right) (can_as is c.requires)),
    )

pub walk-returns-in-Symbol-clause-walked : goal.walk-returns-in-Symbol-clause-walked
walk-returns-in-Symbol-clause-walked t c =
    let is = operated_as c.args.e.now c.in-Binary.left c.in-Binary.op c.in-Binary.right c.in-Binary.is (symbol_operator c.in-Symbol.name.now) (sym c.infix_operation.ensures ∙ ap operation_at c.in-Symbol.is) in
    rw is (rw (c.get-in-Symbol.ensures, c.get-in-Symbol-2.ensures) at c.walk_use-in-Symbol.ensures.walked)

-- ---- a field
pub walk-walk_symbol-requires : goal.walk-walk_symbol-requires
walk-walk_symbol-requires t c =
    let is = expression_at-Dot c.args.e.now c.in-Dot.inner c.in-Dot.field c.in-Dot.is in
    let can = can_field c.args.e.now.at.main (expression_of c.in-Dot.inner) c.in-Dot.field.at c.in-Dot.field.scopes (text_of_own (own_of c.in-Dot.field.style c.in-Dot.field.text)) (can_as is c.requires) in
    (omega (arith, size_at-Dot c.args.e.now c.in-Dot.inner c.in-Dot.field c.in-Dot.is, ap size_of c.get-in-Dot.ensures), rw c.get-in-Dot.ensures can)

pub walk-returns-in_ok-own-in-Dot-clause-walked : goal.walk-returns-in_ok-own-in-Dot-clause-walked
walk-returns-in_ok-own-in-Dot-clause-walked t c =
    let is = expression_at-Dot c.args.e.now c.in-Dot.inner c.in-Dot.field c.in-Dot.is in
    let own = c.as_slice-in-Dot-3.ensures ∙ c.in_ok-own-in-Dot.ensures ∙ ap (λ (x : Word). text_of_own (own_of c.in-Dot.field.style x)) c.as_slice-in-Dot.ensures in
    rw is (rw (c.symbol_named-symbol.ensures, c.as_slice-in-Dot-2.ensures, own, c.get-in-Dot.ensures) at c.walk_symbol.ensures.walked)

-- ---- the fields of a record
pub walk-walk_record-requires : goal.walk-walk_record-requires
walk-walk_record-requires t c =
    let is = expression_at-Fields c.args.e.now c.in-Fields.fields c.in-Fields.field-1 c.in-Fields.is in
    (omega (arith, size_at-Fields c.args.e.now c.in-Fields.fields c.in-Fields.field-1 c.in-Fields.is, ap values_size c.as_slice-fields.ensures), rw c.as_slice-fields.ensures (can_as is c.requires))

pub walk-returns-in-Fields-clause-walked : goal.walk-returns-in-Fields-clause-walked
walk-returns-in-Fields-clause-walked t c =
    let is = expression_at-Fields c.args.e.now c.in-Fields.fields c.in-Fields.field-1 c.in-Fields.is in
    rw is (rw c.as_slice-fields.ensures at c.walk_record.ensures.walked)

-- ---- constants
pub walk-walk_literal-requires-clause-term : goal.walk-walk_literal-requires-clause-term
walk-walk_literal-requires-clause-term t c =
    let is = expression_at-Int c.args.e.now c.in-Int.value c.in-Int.is in
    let h = rw is at c.requires.resolved in
    not_if (is_due c.args.wanted) (WrongKind c.args.e.now.at.main) h

pub walk-returns-in-True-clause-walked : goal.walk-returns-in-True-clause-walked
walk-returns-in-True-clause-walked t c =
    let is = expression_at-True c.args.e.now c.in-True.is in
    let h = rw is at c.requires.resolved in
    let f = formula_due c.args.wanted (must_be (is_due c.args.wanted) (WrongKind c.args.e.now.at.main) h) in
    rw (is, f) (IfOk-weaker c.make.result _ _ (λ id m. walked_bare m refl) c.make.ensures.made)

pub walk-returns-in-False-clause-walked : goal.walk-returns-in-False-clause-walked
walk-returns-in-False-clause-walked t c =
    let is = expression_at-False c.args.e.now c.in-False.is in
    let h = rw is at c.requires.resolved in
    let f = formula_due c.args.wanted (must_be (is_due c.args.wanted) (WrongKind c.args.e.now.at.main) h) in
    rw (is, f) (IfOk-weaker c.make-in-False.result _ _ (λ id m. walked_bare m refl) c.make-in-False.ensures.made)

-- ---- parentheses
pub walk-walk_group-requires : goal.walk-walk_group-requires
walk-walk_group-requires t c =
    let is = expression_at-Group c.args.e.now c.in-Group.parts c.in-Group.is in
    (omega (arith, size_at-Group c.args.e.now c.in-Group.parts c.in-Group.is, ap sizes_of c.as_slice-in-Group.ensures), can_as (is ∙ ap (λ (xs : List Expr). grouped c.args.e.now.at.main (expressions_of xs)) (sym c.as_slice-in-Group.ensures)) c.requires)

pub walk-returns-in-Group-clause-walked : goal.walk-returns-in-Group-clause-walked
walk-returns-in-Group-clause-walked t c =
    let is = expression_at-Group c.args.e.now c.in-Group.parts c.in-Group.is in
    rw (is ∙ ap (λ (xs : List Expr). grouped c.args.e.now.at.main (expressions_of xs)) (sym c.as_slice-in-Group.ensures)) c.walk_group.ensures.walked

-- ---- a cast
pub walk-equate-requires-clause-wanted : goal.walk-equate-requires-clause-wanted
walk-equate-requires-clause-wanted t c = wanted_grows _ _ c.type_of_form.ensures.grows c.args.wanted c.requires.wanted

pub walk-walk-requires : goal.walk-walk-requires
walk-walk-requires t c =
    let is = expression_at-Cast c.args.e.now c.in-Cast.inner c.in-Cast.ty c.in-Cast.is in
    let h = in_cast (where_at c.args.store.now c.args.world.now) false (names_of_locals c.args.locals.now) (is_due c.args.wanted) c.args.e.now.at.main (expression_of c.in-Cast.inner) (type_expression_of c.in-Cast.ty) (rw is at c.requires.resolved) in
    (omega (arith, size_at-Cast c.args.e.now c.in-Cast.inner c.in-Cast.ty c.in-Cast.is, ap size_of c.get.ensures), go_on c.requires.set c.type_of_form.ensures.grows c.in_ok-equate-in-Cast.ensures.noted.ready c.in_ok-own-in-Cast.ensures.held (rw c.get.ensures h.1))

pub walk-returns-in_ok-equate-in-Cast-clause-walked : goal.walk-returns-in_ok-equate-in-Cast-clause-walked
walk-returns-in_ok-equate-in-Cast-clause-walked t c =
    let s = c.args.store.now in
    let n : ℕ = length c.args.draft.now.takers in
    let is = expression_at-Cast c.args.e.now c.in-Cast.inner c.in-Cast.ty c.in-Cast.is in
    let h = in_cast (where_at s c.args.world.now) false (names_of_locals c.args.locals.now) (is_due c.args.wanted) c.args.e.now.at.main (expression_of c.in-Cast.inner) (type_expression_of c.in-Cast.ty) (rw is at c.requires.resolved) in
    let g = c.type_of_form.ensures.grows in
    let own = c.in_ok-own-in-Cast.ensures.tree in
    let ty : Tree = type_at (where_at s c.args.world.now) (type_expression_of c.in-Cast.ty) in
    let eq = noted_after g c.requires.set.ready c.in_ok-equate-in-Cast.ensures.noted in
    let want = wanted_stays _ _ g c.args.wanted c.requires.wanted in
    let notes = noted_as eq (noted (wanting ty (option_map (tree_at s) c.args.wanted)) []) (cc (own, want)) in
    let l : length c.equate.new.draft.takers ≡ n = next notes ∙ (let z : n + 0 ≡ n = omega arith in z) in
    rw (is, term_due c.args.wanted h.0) (IfOk-weaker c.walk.result _ _ (λ id a. walked_after notes (as_begun c.requires.set g (Some c.in_ok-own-in-Cast.own) (expression_of c.in-Cast.inner) n (Some ty) l (ap Some own) a)) (rw c.get.ensures at c.walk.ensures.walked))

-- ---- negation
pub walk-walk-requires-in-Not : goal.walk-walk-requires-in-Not
walk-walk-requires-in-Not t c =
    let is = expression_at-Not c.args.e.now c.in-Not.inner c.in-Not.is in
    let h = in_negation (where_at c.args.store.now c.args.world.now) false (names_of_locals c.args.locals.now) (is_due c.args.wanted) c.args.e.now.at.main (expression_of c.in-Not.inner) (rw is at c.requires.resolved) in
    (omega (arith, size_at-Not c.args.e.now c.in-Not.inner c.in-Not.is, ap size_of c.get-in-Not.ensures), go_on c.requires.set (Grows_refl _) c.requires.set.ready tt (rw c.get-in-Not.ensures h.1))

pub walk-returns-in_ok-a-in-Not-clause-walked : goal.walk-returns-in_ok-a-in-Not-clause-walked
walk-returns-in_ok-a-in-Not-clause-walked t c =
    let is = expression_at-Not c.args.e.now c.in-Not.inner c.in-Not.is in
    let h = in_negation (where_at c.args.store.now c.args.world.now) false (names_of_locals c.args.locals.now) (is_due c.args.wanted) c.args.e.now.at.main (expression_of c.in-Not.inner) (rw is at c.requires.resolved) in
    let a = rw c.get-in-Not.ensures at c.in_ok-a-in-Not.ensures.walked in
    rw (is, formula_due c.args.wanted h.0) (IfOk-weaker c.make-in-Not.result _ _ (λ id m. walked_under (One HNot) a m refl) c.make-in-Not.ensures.made)

-- ---- a connective
pub walk-walk-requires-in-Connective : goal.walk-walk-requires-in-Connective
walk-walk-requires-in-Connective t c =
    let is = operated_as c.args.e.now c.in-Binary.left c.in-Binary.op c.in-Binary.right c.in-Binary.is (connective_operator c.in-Connective.op) (sym c.infix_operation.ensures ∙ ap operation_at c.in-Connective.is) in
    let h = in_joined (where_at c.args.store.now c.args.world.now) false (names_of_locals c.args.locals.now) (is_due c.args.wanted) c.args.e.now.at.main (expression_of c.in-Binary.left) (expression_of c.in-Binary.right) c.in-Connective.op (rw is at c.requires.resolved) in
    (omega (arith, size_at-Binary c.args.e.now c.in-Binary.left c.in-Binary.op c.in-Binary.right c.in-Binary.is, ap size_of c.get-in-Connective.ensures), go_on c.requires.set (Grows_refl _) c.requires.set.ready tt (rw c.get-in-Connective.ensures h.1))

pub walk-walk-requires-in-Connective-2 : goal.walk-walk-requires-in-Connective-2
walk-walk-requires-in-Connective-2 t c =
    let is = operated_as c.args.e.now c.in-Binary.left c.in-Binary.op c.in-Binary.right c.in-Binary.is (connective_operator c.in-Connective.op) (sym c.infix_operation.ensures ∙ ap operation_at c.in-Connective.is) in
    let h = in_joined (where_at c.args.store.now c.args.world.now) false (names_of_locals c.args.locals.now) (is_due c.args.wanted) c.args.e.now.at.main (expression_of c.in-Binary.left) (expression_of c.in-Binary.right) c.in-Connective.op (rw is at c.requires.resolved) in
    (omega (arith, size_at-Binary c.args.e.now c.in-Binary.left c.in-Binary.op c.in-Binary.right c.in-Binary.is, ap size_of c.get-in-Connective-2.ensures), go_on c.requires.set c.walk-in-Connective.ensures.grows c.in_ok-a-in-Connective.ensures.walked.noted.ready tt (rw c.get-in-Connective-2.ensures h.2))

pub walk-returns-in_ok-b-in-Connective-clause-walked : goal.walk-returns-in_ok-b-in-Connective-clause-walked
walk-returns-in_ok-b-in-Connective-clause-walked t c =
    let is = operated_as c.args.e.now c.in-Binary.left c.in-Binary.op c.in-Binary.right c.in-Binary.is (connective_operator c.in-Connective.op) (sym c.infix_operation.ensures ∙ ap operation_at c.in-Connective.is) in
    let h = in_joined (where_at c.args.store.now c.args.world.now) false (names_of_locals c.args.locals.now) (is_due c.args.wanted) c.args.e.now.at.main (expression_of c.in-Binary.left) (expression_of c.in-Binary.right) c.in-Connective.op (rw is at c.requires.resolved) in
    let a = rw c.get-in-Connective.ensures at c.in_ok-a-in-Connective.ensures.walked in
    let p = piece (where_at c.args.store.now c.args.world.now) (locals_at c.args.store.now c.args.locals.now) (length c.args.draft.now.takers) None (expression_of c.in-Binary.left) in
    let b = as_begun c.requires.set c.walk-in-Connective.ensures.grows None (expression_of c.in-Binary.right) (unknown_after (length c.args.draft.now.takers) p) None (next a.noted) refl (rw c.get-in-Connective-2.ensures at c.in_ok-b-in-Connective.ensures.walked) in
    rw (is, formula_due c.args.wanted h.0) (IfOk-weaker c.make-in-Connective.result _ _ (λ id m. walked_both (Two (HJoin c.in-Connective.op)) a b c.walk-in-Connective-2.ensures.grows m refl) c.make-in-Connective.ensures.made)

-- ---- an equality
pub walk-walk-requires-in-Equality : goal.walk-walk-requires-in-Equality
walk-walk-requires-in-Equality t c =
    let is = operated_as c.args.e.now c.in-Binary.left c.in-Binary.op c.in-Binary.right c.in-Binary.is (equality_operator c.in-Equality.same) (sym c.infix_operation.ensures ∙ ap operation_at c.in-Equality.is) in
    let h = in_equated (where_at c.args.store.now c.args.world.now) false (names_of_locals c.args.locals.now) (is_due c.args.wanted) c.args.e.now.at.main c.in-Equality.same (expression_of c.in-Binary.left) (expression_of c.in-Binary.right) (rw is at c.requires.resolved) in
    (omega (arith, size_at-Binary c.args.e.now c.in-Binary.left c.in-Binary.op c.in-Binary.right c.in-Binary.is, ap size_of c.get-in-Equality.ensures), go_on c.requires.set c.new_unknown.ensures.grows c.in_ok-ty-in-Equality.ensures.noted.ready c.in_ok-ty-in-Equality.ensures.held (rw c.get-in-Equality.ensures h.1))

pub walk-walk-requires-in-Equality-2 : goal.walk-walk-requires-in-Equality-2
walk-walk-requires-in-Equality-2 t c =
    let is = operated_as c.args.e.now c.in-Binary.left c.in-Binary.op c.in-Binary.right c.in-Binary.is (equality_operator c.in-Equality.same) (sym c.infix_operation.ensures ∙ ap operation_at c.in-Equality.is) in
    let h = in_equated (where_at c.args.store.now c.args.world.now) false (names_of_locals c.args.locals.now) (is_due c.args.wanted) c.args.e.now.at.main c.in-Equality.same (expression_of c.in-Binary.left) (expression_of c.in-Binary.right) (rw is at c.requires.resolved) in
    (omega (arith, size_at-Binary c.args.e.now c.in-Binary.left c.in-Binary.op c.in-Binary.right c.in-Binary.is, ap size_of c.get-in-Equality-2.ensures), go_on c.requires.set (Grows_trans _ _ _ c.new_unknown.ensures.grows c.walk-in-Equality.ensures.grows) c.in_ok-a-in-Equality.ensures.walked.noted.ready (type_grows _ _ c.walk-in-Equality.ensures.grows c.in_ok-ty-in-Equality.ty c.in_ok-ty-in-Equality.ensures.held) (rw c.get-in-Equality-2.ensures h.2))

pub walk-returns-in_ok-b-in-Equality-clause-walked : goal.walk-returns-in_ok-b-in-Equality-clause-walked
walk-returns-in_ok-b-in-Equality-clause-walked t c =
    let is = operated_as c.args.e.now c.in-Binary.left c.in-Binary.op c.in-Binary.right c.in-Binary.is (equality_operator c.in-Equality.same) (sym c.infix_operation.ensures ∙ ap operation_at c.in-Equality.is) in
    let h = in_equated (where_at c.args.store.now c.args.world.now) false (names_of_locals c.args.locals.now) (is_due c.args.wanted) c.args.e.now.at.main c.in-Equality.same (expression_of c.in-Binary.left) (expression_of c.in-Binary.right) (rw is at c.requires.resolved) in
    let n : ℕ = length c.args.draft.now.takers in
    let u = c.in_ok-ty-in-Equality.ensures in
    let ty = c.in_ok-ty-in-Equality.ty in
    let a = as_begun c.requires.set c.new_unknown.ensures.grows (Some ty) (expression_of c.in-Binary.left) (n + 1) (Some (unknown n)) (next u.noted) (ap Some u.tree) (rw c.get-in-Equality.ensures at c.in_ok-a-in-Equality.ensures.walked) in
    let p = piece (where_at c.args.store.now c.args.world.now) (locals_at c.args.store.now c.args.locals.now) (n + 1) (Some (unknown n)) (expression_of c.in-Binary.left) in
    let far = Grows_trans _ _ _ c.new_unknown.ensures.grows c.walk-in-Equality.ensures.grows in
    let l = next a.noted ∙ ap (λ (m : ℕ). m + taken p.notes) (next u.noted) in
    let own = type_stays _ _ c.walk-in-Equality.ensures.grows ty u.held ∙ u.tree in
    let b = as_begun c.requires.set far (Some ty) (expression_of c.in-Binary.right) (unknown_after (n + 1) p) (Some (unknown n)) l (ap Some own) (rw c.get-in-Equality-2.ensures at c.in_ok-b-in-Equality.ensures.walked) in
    rw (is, formula_due c.args.wanted h.0) (IfOk-weaker c.make_equality.result _ _ (λ id m. walked_after u.noted (walked_both (of.equality c.in-Equality.same) a b c.walk-in-Equality-2.ensures.grows m (equality_sort c.in-Equality.same (tree_at c.walk-in-Equality-2.new.store c.in_ok-a-in-Equality.a) (tree_at c.walk-in-Equality-2.new.store c.in_ok-b-in-Equality.b)))) c.make_equality.ensures.made)

-- ---- a choice
pub walk-walk-requires-in-If : goal.walk-walk-requires-in-If
walk-walk-requires-in-If t c =
    let is = expression_at-If c.args.e.now c.in-If.test c.in-If.left c.in-If.right c.in-If.is in
    let h = in_choice (where_at c.args.store.now c.args.world.now) false (names_of_locals c.args.locals.now) (is_due c.args.wanted) c.args.e.now.at.main (expression_of c.in-If.test) (expression_of c.in-If.left) (expression_of c.in-If.right) (rw is at c.requires.resolved) in
    (omega (arith, size_at-If c.args.e.now c.in-If.test c.in-If.left c.in-If.right c.in-If.is, ap size_of c.get-in-If.ensures), go_on c.requires.set (Grows_refl _) c.requires.set.ready tt (rw c.get-in-If.ensures h.0))

pub walk-walk-requires-in-If-2 : goal.walk-walk-requires-in-If-2
walk-walk-requires-in-If-2 t c =
    let is = expression_at-If c.args.e.now c.in-If.test c.in-If.left c.in-If.right c.in-If.is in
    let h = in_choice (where_at c.args.store.now c.args.world.now) false (names_of_locals c.args.locals.now) (is_due c.args.wanted) c.args.e.now.at.main (expression_of c.in-If.test) (expression_of c.in-If.left) (expression_of c.in-If.right) (rw is at c.requires.resolved) in
    let g = c.walk-in-If.ensures.grows in
    (omega (arith, size_at-If c.args.e.now c.in-If.test c.in-If.left c.in-If.right c.in-If.is, ap size_of c.get-in-If-2.ensures), go_on c.requires.set g c.in_ok-c-in-If.ensures.walked.noted.ready (wanted_grows _ _ g c.args.wanted c.requires.wanted) (rw c.get-in-If-2.ensures h.1))

pub walk-walk-requires-in-If-3 : goal.walk-walk-requires-in-If-3
walk-walk-requires-in-If-3 t c =
    let is = expression_at-If c.args.e.now c.in-If.test c.in-If.left c.in-If.right c.in-If.is in
    let h = in_choice (where_at c.args.store.now c.args.world.now) false (names_of_locals c.args.locals.now) (is_due c.args.wanted) c.args.e.now.at.main (expression_of c.in-If.test) (expression_of c.in-If.left) (expression_of c.in-If.right) (rw is at c.requires.resolved) in
    let g = Grows_trans _ _ _ c.walk-in-If.ensures.grows c.walk-in-If-2.ensures.grows in
    (omega (arith, size_at-If c.args.e.now c.in-If.test c.in-If.left c.in-If.right c.in-If.is, ap size_of c.get-in-If-3.ensures), go_on c.requires.set g c.in_ok-a-in-If.ensures.walked.noted.ready (wanted_grows _ _ g c.args.wanted c.requires.wanted) (rw c.get-in-If-3.ensures h.2))

pub walk-make-requires-in-If-clause-fits : goal.walk-make-requires-in-If-clause-fits
walk-make-requires-in-If-clause-fits t c =
    let g = Grows_trans _ _ _ c.walk-in-If-2.ensures.grows c.walk-in-If-3.ensures.grows in
    let test = c.in_ok-c-in-If.ensures.walked in
    let left = c.in_ok-a-in-If.ensures.walked in
    choice_fits (tree_at c.walk-in-If-3.new.store c.in_ok-c-in-If.c) (tree_at c.walk-in-If-3.new.store c.in_ok-a-in-If.a) (tree_at c.walk-in-If-3.new.store c.in_ok-b-in-If.b) c.args.wanted (grown_sort _ _ g test.held test.sort) (grown_sort _ _ c.walk-in-If-3.ensures.grows left.held left.sort) c.in_ok-b-in-If.ensures.walked.sort

pub walk-returns-in_ok-b-in-If-clause-walked : goal.walk-returns-in_ok-b-in-If-clause-walked
walk-returns-in_ok-b-in-If-clause-walked t c =
    let s = c.args.store.now in
    let n : ℕ = length c.args.draft.now.takers in
    let is = expression_at-If c.args.e.now c.in-If.test c.in-If.left c.in-If.right c.in-If.is in
    let want : Option Tree = option_map (tree_at s) c.args.wanted in
    let x = rw c.get-in-If.ensures at c.in_ok-c-in-If.ensures.walked in
    let p = piece (where_at s c.args.world.now) (locals_at s c.args.locals.now) n None (expression_of c.in-If.test) in
    let g1 = c.walk-in-If.ensures.grows in
    let y = as_begun c.requires.set g1 c.args.wanted (expression_of c.in-If.left) (unknown_after n p) want (next x.noted) (wanted_stays _ _ g1 c.args.wanted c.requires.wanted) (rw c.get-in-If-2.ensures at c.in_ok-a-in-If.ensures.walked) in
    let q = piece (where_at s c.args.world.now) (locals_at s c.args.locals.now) (unknown_after n p) want (expression_of c.in-If.left) in
    let g2 = Grows_trans _ _ _ g1 c.walk-in-If-2.ensures.grows in
    let l = next y.noted ∙ ap (λ (m : ℕ). m + taken q.notes) (next x.noted) in
    let z = as_begun c.requires.set g2 c.args.wanted (expression_of c.in-If.right) (unknown_after (unknown_after n p) q) want l (wanted_stays _ _ g2 c.args.wanted c.requires.wanted) (rw c.get-in-If-3.ensures at c.in_ok-b-in-If.ensures.walked) in
    let o = choice_sort (tree_at c.walk-in-If-3.new.store c.in_ok-c-in-If.c) (tree_at c.walk-in-If-3.new.store c.in_ok-a-in-If.a) (tree_at c.walk-in-If-3.new.store c.in_ok-b-in-If.b) c.args.wanted (grown_sort _ _ c.walk-in-If-3.ensures.grows y.held y.sort) in
    rw is (IfOk-weaker c.make-in-If.result _ _ (λ id m. walked_choice x y c.walk-in-If-2.ensures.grows z c.walk-in-If-3.ensures.grows m o) c.make-in-If.ensures.made)

-- ---- a `let` of a name
pub walk-walk-requires-in-Some : goal.walk-walk-requires-in-Some
walk-walk-requires-in-Some t c =
    let is = bound_as c.args.e.now c.in-Let.patterns c.in-Let.value c.in-Let.body c.in-Let.is c.in-Some.name.now.text (rw (c.as_slice-in-Let.ensures, c.in-Some.is) at c.let_name.ensures) in
    let h = in_binding (where_at c.args.store.now c.args.world.now) false (names_of_locals c.args.locals.now) (is_due c.args.wanted) c.args.e.now.at.main c.in-Some.name.now.text (expression_of c.in-Let.value) (expression_of c.in-Let.body) (rw is at c.requires.resolved) in
    (omega (arith, size_at-Let c.args.e.now c.in-Let.patterns c.in-Let.value c.in-Let.body c.in-Let.is, ap size_of c.get-in-Some.ensures), go_on c.requires.set c.new_unknown-in-Some.ensures.grows c.in_ok-ty-in-Some.ensures.noted.ready c.in_ok-ty-in-Some.ensures.held (rw c.get-in-Some.ensures h.0))

pub walk-walk-requires-in-Some-2 : goal.walk-walk-requires-in-Some-2
walk-walk-requires-in-Some-2 t c =
    let is = bound_as c.args.e.now c.in-Let.patterns c.in-Let.value c.in-Let.body c.in-Let.is c.in-Some.name.now.text (rw (c.as_slice-in-Let.ensures, c.in-Some.is) at c.let_name.ensures) in
    let h = in_binding (where_at c.args.store.now c.args.world.now) false (names_of_locals c.args.locals.now) (is_due c.args.wanted) c.args.e.now.at.main c.in-Some.name.now.text (expression_of c.in-Let.value) (expression_of c.in-Let.body) (rw is at c.requires.resolved) in
    let g = Grows_trans _ _ _ c.new_unknown-in-Some.ensures.grows c.walk-in-Some.ensures.grows in
    let own = type_grows _ _ c.walk-in-Some.ensures.grows c.in_ok-ty-in-Some.ty c.in_ok-ty-in-Some.ensures.held in (
      omega (arith, size_at-Let c.args.e.now c.in-Let.patterns c.in-Let.value c.in-Let.body c.in-Let.is, ap size_of c.get-in-Some-2.ensures),
      go_inside c.requires.set _ g c.in_ok-a-in-Some.ensures.walked.noted.ready (one_held _ _ own, locals_grow _ _ g c.args.locals.now c.requires.set.locals) (wanted_grows _ _ g c.args.wanted c.requires.wanted) (rw (c.get-in-Some-2.ensures, c.as_slice-in-Some.ensures) h.1),
    )

pub walk-make-requires-in-Some-clause-fits : goal.walk-make-requires-in-Some-clause-fits
walk-make-requires-in-Some-clause-fits t c =
    let value = c.in_ok-a-in-Some.ensures.walked in
    let_fits (tree_at c.walk-in-Some-2.new.store c.in_ok-a-in-Some.a) (tree_at c.walk-in-Some-2.new.store c.in_ok-b-in-Some.b) c.args.wanted (grown_sort _ _ c.walk-in-Some-2.ensures.grows value.held value.sort) c.in_ok-b-in-Some.ensures.walked.sort

pub walk-returns-in_ok-b-in-Some-clause-walked : goal.walk-returns-in_ok-b-in-Some-clause-walked
walk-returns-in_ok-b-in-Some-clause-walked t c =
    let s = c.args.store.now in
    let n : ℕ = length c.args.draft.now.takers in
    let is = bound_as c.args.e.now c.in-Let.patterns c.in-Let.value c.in-Let.body c.in-Let.is c.in-Some.name.now.text (rw (c.as_slice-in-Let.ensures, c.in-Some.is) at c.let_name.ensures) in
    let want : Option Tree = option_map (tree_at s) c.args.wanted in
    let u = c.in_ok-ty-in-Some.ensures in
    let ty = c.in_ok-ty-in-Some.ty in
    let g1 = c.new_unknown-in-Some.ensures.grows in
    let a = as_begun c.requires.set g1 (Some ty) (expression_of c.in-Let.value) (n + 1) (Some (unknown n)) (next u.noted) (ap Some u.tree) (rw c.get-in-Some.ensures at c.in_ok-a-in-Some.ensures.walked) in
    let p = piece (where_at s c.args.world.now) (locals_at s c.args.locals.now) (n + 1) (Some (unknown n)) (expression_of c.in-Let.value) in
    let g = Grows_trans _ _ _ g1 c.walk-in-Some.ensures.grows in
    let l = next a.noted ∙ ap (λ (m : ℕ). m + taken p.notes) (next u.noted) in
    let own = type_stays _ _ c.walk-in-Some.ensures.grows ty u.held ∙ u.tree in
    let within = one_inside c.walk-in-Some.new.store (record { name = c.as_slice-in-Some.result; ty = ty }) c.in-Some.name.now.text (unknown n) (locals_at s c.args.locals.now) (locals_at c.walk-in-Some.new.store c.args.locals.now) c.as_slice-in-Some.ensures own (locals_stay _ _ g c.args.locals.now c.requires.set.locals) in
    let b = as_inside c.requires.set g c.args.wanted (expression_of c.in-Let.body) _ (local c.in-Some.name.now.text (unknown n) ∷ locals_at s c.args.locals.now) (unknown_after (n + 1) p) want l within (wanted_stays _ _ g c.args.wanted c.requires.wanted) (rw c.get-in-Some-2.ensures at c.in_ok-b-in-Some.ensures.walked) in
    rw is (IfOk-weaker c.make-in-Some.result _ _ (λ id m. walked_after u.noted (walked_both (Two HLet) a b c.walk-in-Some-2.ensures.grows m (let_sort (tree_at c.walk-in-Some-2.new.store c.in_ok-a-in-Some.a) (tree_at c.walk-in-Some-2.new.store c.in_ok-b-in-Some.b) c.args.wanted b.sort))) c.make-in-Some.ensures.made)

-- ---- a `let` of another pattern, and a `match`
pub walk-walk_matched-requires : goal.walk-walk_matched-requires
walk-walk_matched-requires t c =
    let is = matched_as c.args.e.now c.in-Let.patterns c.in-Let.value c.in-Let.body c.in-Let.is (rw (c.as_slice-in-Let.ensures, c.in-None.is) at c.let_name.ensures) in
    (omega (arith, size_at-Let c.args.e.now c.in-Let.patterns c.in-Let.value c.in-Let.body c.in-Let.is, ap size_of c.get-value.ensures, ap size_of c.get-body.ensures), rw (c.as_slice-patterns.ensures, c.get-value.ensures, c.get-body.ensures) (can_as is c.requires))

pub walk-returns-in-None-clause-walked : goal.walk-returns-in-None-clause-walked
walk-returns-in-None-clause-walked t c =
    let s = c.args.store.now in
    let is = matched_as c.args.e.now c.in-Let.patterns c.in-Let.value c.in-Let.body c.in-Let.is (rw (c.as_slice-in-Let.ensures, c.in-None.is) at c.let_name.ensures) in
    let make : List Pat → Expr → Expr → Expression = λ ps a b. match_expression c.args.e.now.at.main true (expression_of a) (more_branches (more_alternatives (first_form (code.patterns ps)) (side_by_side (code.patterns ps)) no_alternatives) (expression_of b) no_branches) in
    let same = is ∙ (ap (λ (ps : List Pat). make ps c.in-Let.value c.in-Let.body) (sym c.as_slice-patterns.ensures) ∙ (ap (λ (a : Expr). make c.as_slice-patterns.result.now a c.in-Let.body) (sym c.get-value.ensures) ∙ ap (λ (b : Expr). make c.as_slice-patterns.result.now c.get-value.result.now b) (sym c.get-body.ensures))) in
    subst (λ (x : Expression). IfOk c.walk_matched.result (IsWalked (piece (where_at s c.args.world.now) (locals_at s c.args.locals.now) (length c.args.draft.now.takers) (option_map (tree_at s) c.args.wanted) x) (due c.args.wanted) s c.args.draft.now c.walk_matched.new.store c.walk_matched.new.draft)) (sym same) c.walk_matched.ensures.walked

pub walk-walk_match-requires : goal.walk-walk_match-requires
walk-walk_match-requires t c =
    let is = expression_at-Match c.args.e.now c.in-Match.values c.in-Match.field-1 c.in-Match.branches c.in-Match.is in
    (omega (arith, size_at-Match c.args.e.now c.in-Match.values c.in-Match.field-1 c.in-Match.branches c.in-Match.is, ap sizes_of c.as_slice-values.ensures, ap branches_size c.as_slice-branches.ensures), rw (c.as_slice-values.ensures, c.as_slice-branches.ensures) (can_as is c.requires))

pub walk-returns-in-Match-clause-walked : goal.walk-returns-in-Match-clause-walked
walk-returns-in-Match-clause-walked t c =
    let s = c.args.store.now in
    let is = expression_at-Match c.args.e.now c.in-Match.values c.in-Match.field-1 c.in-Match.branches c.in-Match.is in
    let make : List Expr → List BranchTree → Expression = λ xs bs. match_expression c.args.e.now.at.main false (grouped (first_tree (code.trees (map code.tree_of xs))) (expressions_of xs)) (branches_of bs) in
    let same = is ∙ (ap (λ (xs : List Expr). make xs c.in-Match.branches) (sym c.as_slice-values.ensures) ∙ ap (λ (bs : List BranchTree). make c.as_slice-values.result.now bs) (sym c.as_slice-branches.ensures)) in
    subst (λ (x : Expression). IfOk c.walk_match.result (IsWalked (piece (where_at s c.args.world.now) (locals_at s c.args.locals.now) (length c.args.draft.now.takers) (option_map (tree_at s) c.args.wanted) x) (due c.args.wanted) s c.args.draft.now c.walk_match.new.store c.walk_match.new.draft)) (sym same) c.walk_match.ensures.walked

-- ---- quantifiers
pub walk-walk_quantified-requires : goal.walk-walk_quantified-requires
walk-walk_quantified-requires t c =
    let is = expression_at-Quant c.args.e.now c.in-Quant.all c.in-Quant.binders c.in-Quant.triggers c.in-Quant.body c.in-Quant.is in
    let can = can_quantify c.args.e.now.at.main c.in-Quant.all (binders_of c.in-Quant.binders) (triggers_of c.in-Quant.triggers) (expression_of c.in-Quant.body) (can_as is c.requires) in
    (omega (arith, size_at-Quant c.args.e.now c.in-Quant.all c.in-Quant.binders c.in-Quant.triggers c.in-Quant.body c.in-Quant.is, ap size_of c.get-in-Quant.ensures), rw (c.as_slice-binders.ensures, c.get-in-Quant.ensures) can)

pub walk-returns-in-Quant-clause-walked : goal.walk-returns-in-Quant-clause-walked
walk-returns-in-Quant-clause-walked t c =
    let is = expression_at-Quant c.args.e.now c.in-Quant.all c.in-Quant.binders c.in-Quant.triggers c.in-Quant.body c.in-Quant.is in
    let f = formula_due c.args.wanted (quantified_due c.args.e.now.at.main c.in-Quant.all (binders_of c.in-Quant.binders) (triggers_of c.in-Quant.triggers) (expression_of c.in-Quant.body) (can_as is c.requires)) in
    rw (is, f) (rw (c.as_slice-binders.ensures, c.get-in-Quant.ensures) at c.walk_quantified.ensures.walked)

-- ---- a name before its operands
pub walk_use-walk_local-requires-clause-ty : goal.walk_use-walk_local-requires-clause-ty
walk_use-walk_local-requires-clause-ty t c = (rw c.in-Some.is at c.in_ok-place.ensures.held) c.args.store.now c.requires.set.locals

pub walk_use-walk_local-requires-clause-term : goal.walk_use-walk_local-requires-clause-term
walk_use-walk_local-requires-clause-term t c =
    let f = (rw c.in-Some.is at c.in_ok-place.ensures.found) c.args.store.now in
    term_of_local (where_at c.args.store.now c.args.world.now) c.args.store.now c.args.locals.now (is_due c.args.wanted) c.args.token c.args.scopes.now c.args.name.now (operands_at c.args.operands) _ c.requires.resolved f

pub walk_use-returns-in-Some-clause-walked : goal.walk_use-returns-in-Some-clause-walked
walk_use-returns-in-Some-clause-walked t c =
    let s = c.args.store.now in
    let f = (rw c.in-Some.is at c.in_ok-place.ensures.found) s in
    IfOk-weaker c.walk_local.result _ _ (λ id a. local_walked (where_at s c.args.world.now) (locals_at s c.args.locals.now) (length c.args.draft.now.takers) (option_map (tree_at s) c.args.wanted) c.args.token c.args.scopes.now c.args.name.now (operands_at c.args.operands) f a) c.walk_local.ensures.walked

pub walk_use-walk_symbol-requires : goal.walk_use-walk_symbol-requires
walk_use-walk_symbol-requires t c = (omega arith, can_use c.args.token c.args.scopes.now c.args.name.now (operands_at c.args.operands) c.requires)

pub walk_use-returns-in-None-clause-walked : goal.walk_use-returns-in-None-clause-walked
walk_use-returns-in-None-clause-walked t c =
    let s = c.args.store.now in
    let f = (rw c.in-None.is at c.in_ok-place.ensures.found) s in
    IfOk-weaker c.walk_symbol.result _ _ (λ id a. symbol_walked (where_at s c.args.world.now) (locals_at s c.args.locals.now) (length c.args.draft.now.takers) (option_map (tree_at s) c.args.wanted) c.args.token c.args.scopes.now c.args.name.now (operands_at c.args.operands) f a) (rw c.symbol_named-symbol.ensures at c.walk_symbol.ensures.walked)

-- ---- an entry before its operands
pub walk_symbol-begin_use-requires-clause-info : goal.walk_symbol-begin_use-requires-clause-info
walk_symbol-begin_use-requires-clause-info t c = rw (sym c.entry_at-info.ensures) at (got_one {X = SymbolInfo} (SymbolTyped c.args.store.now) c.args.world.now.symbols.now c.entry_number-symbol.result c.requires.set.world.symbols)

pub walk_symbol-types_put-requires-clause-args : goal.walk_symbol-types_put-requires-clause-args
walk_symbol-types_put-requires-clause-args t c =
    let typed = rw (sym c.entry_at-info.ensures) at (got_one {X = SymbolInfo} (SymbolTyped c.args.store.now) c.args.world.now.symbols.now c.entry_number-symbol.result c.requires.set.world.symbols) in
    types_grow _ _ c.begin_use.ensures.grows c.entry_args.result.now (c.entry_args.ensures.held c.args.store.now typed)

pub walk_symbol-walk_all-requires : goal.walk_symbol-walk_all-requires
walk_symbol-walk_all-requires t c =
    let g = Grows_trans _ _ _ c.begin_use.ensures.grows c.types_put.ensures.grows in
    (omega arith, go_all c.requires g (ready_grows _ _ c.types_put.ensures.grows c.begin_use.new.draft c.in_ok-types.ensures.begun.noted.ready) (rw c.as_slice-2.ensures.value c.in_ok-parameters.ensures.held))

pub walk_symbol-finish_use-requires-clause-types : goal.walk_symbol-finish_use-requires-clause-types
walk_symbol-finish_use-requires-clause-types t c =
    let g = Grows_trans _ _ _ c.types_put.ensures.grows c.walk_all.ensures.grows in
    rw c.as_slice-3.ensures.value (types_grow _ _ g c.in_ok-types.types.items c.in_ok-types.ensures.begun.held)

pub walk_symbol-finish_use-requires-clause-wanted : goal.walk_symbol-finish_use-requires-clause-wanted
walk_symbol-finish_use-requires-clause-wanted t c =
    let g = Grows_trans _ _ _ (Grows_trans _ _ _ c.begin_use.ensures.grows c.types_put.ensures.grows) c.walk_all.ensures.grows in
    wanted_grows _ _ g c.args.wanted c.requires.wanted

pub walk_symbol-returns-clause-walked : goal.walk_symbol-returns-clause-walked
walk_symbol-returns-clause-walked t c =
    let s = c.args.store.now in
    let k = c.entry_number-symbol.result in
    let typed = rw (sym c.entry_at-info.ensures) at (got_one {X = SymbolInfo} (SymbolTyped s) c.args.world.now.symbols.now k c.requires.set.world.symbols) in
    let e = symbol_got s (option_copied c.entry_at-info.result) in
    let g = c.begin_use.ensures.grows in
    let same = entry_got s c.args.world.now.symbols.now k ∙ ap (symbol_got s) (sym c.entry_at-info.ensures) in
    let args = types_stay _ _ g c.entry_args.result.now (c.entry_args.ensures.held s typed) ∙ c.entry_args.ensures.trees s in
    let put = rw c.as_slice.ensures.value at c.in_ok-parameters.ensures.trees in
    let entry = c.entry_number-symbol.ensures (where_at s c.args.world.now).symbols in
    let walked = rw c.as_slice-2.ensures.value at c.in_ok-args.ensures.walked in
    IfOk-weaker c.finish_use.result _ _ (λ id m. used_walked c.requires c.in_ok-parameters.parameters.items c.entry_args.result.now k e _ same entry c.in_ok-types.ensures.begun g c.types_put.ensures.grows put args walked c.walk_all.ensures.grows m) (rw c.as_slice-3.ensures.value at c.finish_use.ensures.made)

-- ---- arguments
pub walk_all-returns-in_default-clause-walked : goal.walk_all-returns-in_default-clause-walked
walk_all-returns-in_default-clause-walked t c = rw c.in_default.ensures.operands (IfOk-weaker c.make.result _ _ (λ id m. walked_end m) c.make.ensures.made)

pub walk_all-walk-requires : goal.walk_all-walk-requires
walk_all-walk-requires t c = (omega (arith, c.in-Some.ensures.size), go_first (rw c.in-Some.ensures.operands at c.requires) c.first_type-ty.result c.first_type-ty.ensures.held)

pub walk_all-walk_all-requires : goal.walk_all-walk_all-requires
walk_all-walk_all-requires t c =
    (omega (arith, c.in-Some.ensures.size, some_size (code.tree_of c.in-Some.first.now)), rw c.other_types.ensures (go_rest (rw c.in-Some.ensures.operands at c.requires) c.walk.ensures.grows c.in_ok-a.ensures.walked.noted.ready))

pub walk_all-make-requires-2-clause-fits : goal.walk_all-make-requires-2-clause-fits
walk_all-make-requires-2-clause-fits t c =
    let a = c.in_ok-a.ensures.walked in
    cell_fits (tree_at c.walk_all.new.store c.in_ok-a.a) (tree_at c.walk_all.new.store c.in_ok-b.b) (grown_sort _ _ c.walk_all.ensures.grows a.held a.sort) c.in_ok-b.ensures.walked.terms

pub walk_all-returns-clause-walked : goal.walk_all-returns-clause-walked
walk_all-returns-clause-walked t c =
    let s = c.args.store.now in
    let n : ℕ = length c.args.draft.now.takers in
    let can = rw c.in-Some.ensures.operands at c.requires in
    let p = piece (where_at s c.args.world.now) (locals_at s c.args.locals.now) n (Some (first_or_int (trees_at s c.args.wanted.now))) (expression_of c.in-Some.first.now) in
    let a = rw c.first_type-ty.ensures.tree at c.in_ok-a.ensures.walked in
    let b = as_rest can c.walk.ensures.grows (unknown_after n p) (next a.noted) (rw c.other_types.ensures at c.in_ok-b.ensures.walked) in
    rw c.in-Some.ensures.operands (IfOk-weaker c.make-2.result _ _ (λ id m. walked_cell a b c.walk_all.ensures.grows m) c.make-2.ensures.made)

-- ---- parentheses
pub walk_group-walk-requires : goal.walk_group-walk-requires
walk_group-walk-requires t c =
    let one = group_one c.args.token c.args.list.now c.index-list-0.result c.if-list-eq1.true ∙ ap expression_of (sym c.index-list-0.is) in
    (omega (arith, first_size c.args.list.now c.index-list-0.result c.if-list-eq1.true, ap size_of c.index-list-0.is), can_as one c.requires)

pub walk_group-returns-then-list-eq1-clause-walked : goal.walk_group-returns-then-list-eq1-clause-walked
walk_group-returns-then-list-eq1-clause-walked t c =
    let one = group_one c.args.token c.args.list.now c.index-list-0.result c.if-list-eq1.true ∙ ap expression_of (sym c.index-list-0.is) in
    rw one c.walk.ensures.walked

pub walk_group-walk_symbol-requires : goal.walk_group-walk_symbol-requires
walk_group-walk_symbol-requires t c =
    let many = group_many c.args.token c.args.list.now c.if-list-eq1.false in
    (omega arith, can_tuple c.args.token (expressions_of c.args.list.now) (can_as many c.requires))

pub walk_group-returns-clause-walked : goal.walk_group-returns-clause-walked
walk_group-returns-clause-walked t c =
    let many = group_many c.args.token c.args.list.now c.if-list-eq1.false in
    let count = counted c.args.list.now in
    rw many (rw (c.tuple_named-symbol.ensures c.args.store.now, sym count) at c.walk_symbol.ensures.walked)

-- ---- quantifiers
pub walk_quantified-bind-requires-clause-held : goal.walk_quantified-bind-requires-clause-held
walk_quantified-bind-requires-clause-held t c = rw c.new-bound.ensures.items (All-nil _)

pub walk_quantified-walk_triggers-requires : goal.walk_quantified-walk_triggers-requires
walk_quantified-walk_triggers-requires t c =
    let set = c.requires.set in
    let g = c.bind.ensures.grows in
    let b = rw c.new-bound.ensures.items at c.in_ok-bind.ensures.bound in
    let h = in_quantified (where_at c.args.store.now c.args.world.now) (names_of_locals c.args.locals.now) true c.args.token c.args.all (binders_of c.args.binders.now) (triggers_of c.args.triggers.now) (expression_of c.args.body.now) c.requires.resolved in (
      omega arith,
      rw c.as_slice.ensures.value (record {
        set = set_inside set _ g b.noted.ready (inside_held (binders_of c.args.binders.now) set g b);
        resolved = rw (world_stays _ _ g c.args.world.now set.world, inside_names (binders_of c.args.binders.now) set g b) h.1;
      }),
    )

pub walk_quantified-walk-requires : goal.walk_quantified-walk-requires
walk_quantified-walk-requires t c =
    let set = c.requires.set in
    let g1 = c.bind.ensures.grows in
    let g = Grows_trans _ _ _ g1 c.walk_triggers.ensures.grows in
    let b = rw c.new-bound.ensures.items at c.in_ok-bind.ensures.bound in
    let h = in_quantified (where_at c.args.store.now c.args.world.now) (names_of_locals c.args.locals.now) true c.args.token c.args.all (binders_of c.args.binders.now) (triggers_of c.args.triggers.now) (expression_of c.args.body.now) c.requires.resolved in
    let held = inside_held (binders_of c.args.binders.now) set g1 b in (
      omega arith,
      rw c.as_slice.ensures.value (record {
        set = set_inside set _ g c.in_ok-walk_triggers.ensures.noted.ready (each_grows _ _ c.walk_triggers.ensures.grows c.bind.new.locals.items held.0, locals_grow _ _ c.walk_triggers.ensures.grows c.args.locals.now held.1);
        wanted = tt;
        resolved = rw (world_stays _ _ g c.args.world.now set.world, inside_names (binders_of c.args.binders.now) set g1 b) h.2;
      }),
    )

pub walk_quantified-quantify-requires-clause-bound : goal.walk_quantified-quantify-requires-clause-bound
walk_quantified-quantify-requires-clause-bound t c =
    let b = rw c.new-bound.ensures.items at c.in_ok-bind.ensures.bound in
    let g = Grows_trans _ _ _ c.walk_triggers.ensures.grows c.walk.ensures.grows in
    rw c.as_slice-2.ensures.value (each_grows _ _ g c.bind.new.locals.items b.held)

pub walk_quantified-returns-clause-walked : goal.walk_quantified-returns-clause-walked
walk_quantified-returns-clause-walked t c =
    let s = c.args.store.now in
    let n : ℕ = length c.args.draft.now.takers in
    let w = where_at s c.args.world.now in
    let ls = locals_at s c.args.locals.now in
    let bs = binders_of c.args.binders.now in
    let gs = triggers_of c.args.triggers.now in
    let set = c.requires.set in
    let g1 = c.bind.ensures.grows in
    let g = Grows_trans _ _ _ g1 c.walk_triggers.ensures.grows in
    let b = rw c.new-bound.ensures.items at c.in_ok-bind.ensures.bound in
    let within = inside_locals bs set g1 b in
    let start = next_unknown bs set g1 b in
    let ww = world_stays _ _ g1 c.args.world.now set.world in
    let trig = noted_as (rw c.as_slice.ensures.value at c.in_ok-walk_triggers.ensures.noted) _ (triggers_as _ w _ (reverse (bound w n bs) ++ ls) _ (n + binders_vars bs) gs ww within start) in
    let held = inside_held bs set g1 b in
    let s2 = c.walk_triggers.new.store in
    let vs = c.bind.new.locals.items in
    let far = c.walk_triggers.ensures.grows in
    let deep : reverse (map (local_at s2) vs) ++ locals_at s2 c.args.locals.now ≡ reverse (bound w n bs) ++ ls = cc (each_stays _ _ far vs held.0, locals_stay _ _ far c.args.locals.now held.1, within) in
    let l = next trig ∙ ap (λ (m : ℕ). m + taken (triggers_notes w (reverse (bound w n bs) ++ ls) (n + binders_vars bs) gs)) start in
    let body = as_inside set g None (expression_of c.args.body.now) _ (reverse (bound w n bs) ++ ls) (n + binders_vars bs + taken (triggers_notes w (reverse (bound w n bs) ++ ls) (n + binders_vars bs) gs)) None l (rw c.as_slice.ensures.value deep) refl c.in_ok-inner.ensures.walked in
    ifok_both c.quantify.result (λ id m o. quantified_walked w ls c.args.token c.args.all bs gs (expression_of c.args.body.now) b trig c.walk_triggers.ensures.grows body c.walk.ensures.grows m o) (rw c.as_slice-2.ensures.value at c.quantify.ensures.made) c.quantify.ensures.formula

-- ---- triggers
pub walk_triggers-walk_terms-requires : goal.walk_triggers-walk_terms-requires
walk_triggers-walk_terms-requires t c =
    let is = triggers_at-Some c.args.triggers.now c.in-Some.terms c.in-Some.is in
    (omega (arith, triggers_size-Some c.args.triggers.now c.in-Some.terms c.in-Some.is, ap sizes_of c.as_slice.ensures), rw c.as_slice.ensures (rw is at c.requires))

pub walk_triggers-returns-in-Some-clause-noted : goal.walk_triggers-returns-in-Some-clause-noted
walk_triggers-returns-in-Some-clause-noted t c =
    let is = triggers_at-Some c.args.triggers.now c.in-Some.terms c.in-Some.is in
    rw is (rw c.as_slice.ensures at c.walk_terms.ensures.noted)

pub walk_triggers-returns-in-None-clause-noted : goal.walk_triggers-returns-in-None-clause-noted
walk_triggers-returns-in-None-clause-noted t c = rw c.in-None.is (nothing_noted c.args.store.now c.args.draft.now c.requires.set.ready)

pub walk_terms-walk-requires : goal.walk_terms-walk-requires
walk_terms-walk-requires t c =
    let h = in_triggers (where_at c.args.store.now c.args.world.now) (names_of_locals c.args.locals.now) (expression_of c.in-Some.first.now) (expressions_of c.in-Some.rest.now) (rw c.in-Some.ensures.cases.0 at c.requires.resolved) in
    (omega (arith, ap sizes_of c.in-Some.ensures.cases.0), go_on c.requires.set c.trigger_type.ensures.grows c.in_ok-ty.ensures.noted.ready c.in_ok-ty.ensures.held (rw c.in_ok-ty.ensures.due h.0))

pub walk_terms-walk_terms-requires : goal.walk_terms-walk_terms-requires
walk_terms-walk_terms-requires t c =
    let g = Grows_trans _ _ _ c.trigger_type.ensures.grows c.walk.ensures.grows in
    let h = in_triggers (where_at c.args.store.now c.args.world.now) (names_of_locals c.args.locals.now) (expression_of c.in-Some.first.now) (expressions_of c.in-Some.rest.now) (rw c.in-Some.ensures.cases.0 at c.requires.resolved) in
    (omega (arith, ap sizes_of c.in-Some.ensures.cases.0, some_size (code.tree_of c.in-Some.first.now)), record { set = set_on c.requires.set g c.in_ok-walk.ensures.walked.noted.ready; resolved = rw (world_stays _ _ g c.args.world.now c.requires.set.world) h.1 })

pub walk_terms-returns-in_default-clause-noted : goal.walk_terms-returns-in_default-clause-noted
walk_terms-returns-in_default-clause-noted t c = rw (no_elements c.args.list.now c.in_default.ensures.cases) (nothing_noted c.args.store.now c.args.draft.now c.requires.set.ready)

pub walk_terms-returns-clause-noted : goal.walk_terms-returns-clause-noted
walk_terms-returns-clause-noted t c =
    let s = c.args.store.now in
    let w = where_at s c.args.world.now in
    let ls = locals_at s c.args.locals.now in
    let set = c.requires.set in
    let g1 = c.trigger_type.ensures.grows in
    let g = Grows_trans _ _ _ g1 c.walk.ensures.grows in
    let e = expression_of c.in-Some.first.now in
    let u = c.in_ok-ty.ensures in
    let a = as_begun set g1 c.in_ok-ty.ty e (length c.trigger_type.new.draft.takers) (option_map (tree_at c.trigger_type.new.store) c.in_ok-ty.ty) refl refl c.in_ok-walk.ensures.walked in
    let ww = world_stays _ _ g c.args.world.now set.world in
    let ll = locals_stay _ _ g c.args.locals.now set.locals in
    rw c.in-Some.ensures.cases.0 (on_ok_weaker c.walk_terms.result (λ h. trigger_walked w ls e (expressions_of c.in-Some.rest.now) u.wanted u.noted a (λ n l. noted_as h _ (triggers_as _ w _ ls _ n (expressions_of c.in-Some.rest.now) ww ll l))) c.walk_terms.ensures.noted)

-- ---- branches
pub walk_match-walk_group-requires : goal.walk_match-walk_group-requires
walk_match-walk_group-requires t c =
    let w = where_at c.args.store.now c.args.world.now in
    let h = in_cases w (names_of_locals c.args.locals.now) (is_due c.args.wanted) c.args.token false (grouped (first_tree (code.trees (map code.tree_of c.args.values.now))) (expressions_of c.args.values.now)) (branches_of c.args.branches.now) c.requires.resolved in
    let none' = ap (λ (i : ℕ). fault w false (names_of_locals c.args.locals.now) false (grouped i (expressions_of c.args.values.now))) c.first_token-first.ensures ∙ h.0 in
    (omega arith, go_on c.requires.set c.new_unknown.ensures.grows c.in_ok-ty.ensures.noted.ready c.in_ok-ty.ensures.held none')

pub walk_match-walk_branches-requires : goal.walk_match-walk_branches-requires
walk_match-walk_branches-requires t c =
    let h = in_cases (where_at c.args.store.now c.args.world.now) (names_of_locals c.args.locals.now) (is_due c.args.wanted) c.args.token false (grouped (first_tree (code.trees (map code.tree_of c.args.values.now))) (expressions_of c.args.values.now)) (branches_of c.args.branches.now) c.requires.resolved in
    let g = Grows_trans _ _ _ c.new_unknown.ensures.grows c.walk_group.ensures.grows in (
      omega arith,
      record {
        set = set_on c.requires.set g c.in_ok-subject.ensures.walked.noted.ready;
        wanted = wanted_grows _ _ g c.args.wanted c.requires.wanted;
        subject = type_grows _ _ c.walk_group.ensures.grows c.in_ok-ty.ty c.in_ok-ty.ensures.held;
        patterns = rw c.new-patterns.ensures (All-nil _);
        resolved = rw (world_stays _ _ g c.args.world.now c.requires.set.world) h.2;
      },
    )

pub walk_match-returns-clause-walked : goal.walk_match-returns-clause-walked
walk_match-returns-clause-walked t c =
    let u = c.in_ok-ty.ensures in
    let a = rw c.first_token-first.ensures at c.in_ok-subject.ensures.walked in
    let r = rw c.new-patterns.ensures at c.in_ok-arms.ensures.arms in
    IfOk-weaker c.make.result _ _ (λ id m. match_walked c.args.token false (grouped (first_tree (code.trees (map code.tree_of c.args.values.now))) (expressions_of c.args.values.now)) (branches_of c.args.branches.now) c.requires c.in_ok-place.place c.in_ok-place.ensures.place c.in_ok-place.ensures.noted u.tree u.held u.noted c.new_unknown.ensures.grows a c.walk_group.ensures.grows r c.walk_branches.ensures.grows c.fill.ensures.equations c.fill.ensures.takers c.fill.ensures.matches m) c.make.ensures.made

pub walk_branch-walk-requires : goal.walk_branch-walk-requires
walk_branch-walk-requires t c =
    let s = c.args.store.now in
    let set = c.requires.set in
    let g = c.walk_alternatives.ensures.grows in
    let ps = more_alternatives (first_form (code.patterns c.args.first.now)) (side_by_side (code.patterns c.args.first.now)) (alternatives_of c.args.rest.now) in
    let a = c.in_ok-branch.ensures.alternatives (first_form (code.patterns c.args.first.now)) in
    let h = in_branches (where_at s c.args.world.now) (names_of_locals c.args.locals.now) (is_due c.args.wanted) ps (expression_of c.args.body.now) (branches_of c.args.others.now) c.requires.resolved in
    let q = in_alternatives (where_at s c.args.world.now) (names_of_locals c.args.locals.now) (is_due c.args.wanted) ps (expression_of c.args.body.now) (branches_of c.args.others.now) c.requires.resolved in
    let n : ℕ = length c.args.draft.now.takers in
    let held = branch_held n (tree_at s c.args.subject) ps set g a in
    (omega arith, rw c.as_slice.ensures.value (go_inside set _ g a.noted.ready held (wanted_grows _ _ g c.args.wanted c.requires.wanted) (fault_same (where_at s c.args.world.now) (expression_of c.args.body.now) false _ _ (is_due c.args.wanted) (branch_names n (tree_at s c.args.subject) ps set g a q) ∙ h.0)))

pub walk_branch-walk_branches-requires : goal.walk_branch-walk_branches-requires
walk_branch-walk_branches-requires t c =
    let s = c.args.store.now in
    let set = c.requires.set in
    let g1 = c.walk_alternatives.ensures.grows in
    let g = Grows_trans _ _ _ g1 c.walk.ensures.grows in
    let ps = more_alternatives (first_form (code.patterns c.args.first.now)) (side_by_side (code.patterns c.args.first.now)) (alternatives_of c.args.rest.now) in
    let a = c.in_ok-branch.ensures.alternatives (first_form (code.patterns c.args.first.now)) in
    let h = in_branches (where_at s c.args.world.now) (names_of_locals c.args.locals.now) (is_due c.args.wanted) ps (expression_of c.args.body.now) (branches_of c.args.others.now) c.requires.resolved in (
      omega (arith, some_size (code.tree_of c.args.body.now)),
      record {
        set = set_on set g c.in_ok-body.ensures.walked.noted.ready;
        wanted = wanted_grows _ _ g c.args.wanted c.requires.wanted;
        subject = type_grows _ _ g c.args.subject c.requires.subject;
        patterns = rw c.in_ok-push_patterns.ensures (numbers_held g c.args.patterns.now c.in_ok-branch.branch c.requires.patterns (patterns_grow _ _ c.walk.ensures.grows c.in_ok-branch.branch a.patterns));
        resolved = rw (world_stays _ _ g c.args.world.now set.world) h.1;
      },
    )

pub walk_branch-push_arms-requires-clause-patterns : goal.walk_branch-push_arms-requires-clause-patterns
walk_branch-push_arms-requires-clause-patterns t c =
    let a = c.in_ok-branch.ensures.alternatives (first_form (code.patterns c.args.first.now)) in
    patterns_grow _ _ (Grows_trans _ _ _ c.walk.ensures.grows c.walk_branches.ensures.grows) c.in_ok-branch.branch a.patterns

pub walk_branch-push_arms-requires-clause-expression : goal.walk_branch-push_arms-requires-clause-expression
walk_branch-push_arms-requires-clause-expression t c =
    let body = c.in_ok-body.ensures.walked in
    is_expression c.args.wanted (tree_at c.walk_branches.new.store c.in_ok-body.body) (grown_sort _ _ c.walk_branches.ensures.grows body.held body.sort)

pub walk_branch-returns-clause-arms : goal.walk_branch-returns-clause-arms
walk_branch-returns-clause-arms t c =
    let s = c.args.store.now in
    let n : ℕ = length c.args.draft.now.takers in
    let w = where_at s c.args.world.now in
    let ls = locals_at s c.args.locals.now in
    let set = c.requires.set in
    let want : Option Tree = option_map (tree_at s) c.args.wanted in
    let u : Tree = tree_at s c.args.subject in
    let g1 = c.walk_alternatives.ensures.grows in
    let ps = more_alternatives (first_form (code.patterns c.args.first.now)) (side_by_side (code.patterns c.args.first.now)) (alternatives_of c.args.rest.now) in
    let ms = alternatives_pieces w n u ps in
    let a = c.in_ok-branch.ensures.alternatives (first_form (code.patterns c.args.first.now)) in
    let m : ℕ = n + taken (all_notes ms) in
    let within = branch_locals n u ps set g1 a in
    let p = piece w (reverse (first_variables ms) ++ ls) m want (expression_of c.args.body.now) in
    let body = as_inside set g1 c.args.wanted (expression_of c.args.body.now) _ (reverse (first_variables ms) ++ ls) m want (next a.noted) (rw c.as_slice.ensures.value within) (wanted_stays _ _ g1 c.args.wanted c.requires.wanted) c.in_ok-body.ensures.walked in
    let g = Grows_trans _ _ _ g1 c.walk.ensures.grows in
    let l = next body.noted ∙ ap (λ (j : ℕ). j + taken p.notes) (next a.noted) in
    let rest = rw c.in_ok-push_patterns.ensures at c.in_ok-list.ensures.arms in
    let others = as_arms set g c.args.wanted c.args.subject (branches_of c.args.others.now) (unknown_after m p) u want l (type_stays _ _ g c.args.subject c.requires.subject) (wanted_stays _ _ g c.args.wanted c.requires.wanted) rest in
    let inner = c.in_ok-body.ensures.walked in
    let y = yields_due c.args.wanted (tree_at c.walk_branches.new.store c.in_ok-body.body) (grown_sort _ _ c.walk_branches.ensures.grows inner.held inner.sort) in
    ifok_three c.push_arms.result (λ id held tree list. branch_walked c.requires.patterns g1 a body c.walk.ensures.grows others c.walk_branches.ensures.grows held tree list y c.push_arms.ensures.grows) c.push_arms.ensures.held c.push_arms.ensures.tree c.push_arms.ensures.branches

pub walk_matched-walk-requires : goal.walk_matched-walk-requires
walk_matched-walk-requires t c =
    let h = in_cases (where_at c.args.store.now c.args.world.now) (names_of_locals c.args.locals.now) (is_due c.args.wanted) c.args.token true (expression_of c.args.value.now) (more_branches (more_alternatives (first_form (code.patterns c.args.pattern.now)) (side_by_side (code.patterns c.args.pattern.now)) no_alternatives) (expression_of c.args.body.now) no_branches) c.requires.resolved in
    (omega arith, go_on c.requires.set c.new_unknown.ensures.grows c.in_ok-ty.ensures.noted.ready c.in_ok-ty.ensures.held h.0)

pub walk_matched-walk_branch-requires : goal.walk_matched-walk_branch-requires
walk_matched-walk_branch-requires t c =
    let h = in_cases (where_at c.args.store.now c.args.world.now) (names_of_locals c.args.locals.now) (is_due c.args.wanted) c.args.token true (expression_of c.args.value.now) (more_branches (more_alternatives (first_form (code.patterns c.args.pattern.now)) (side_by_side (code.patterns c.args.pattern.now)) no_alternatives) (expression_of c.args.body.now) no_branches) c.requires.resolved in
    let g = Grows_trans _ _ _ c.new_unknown.ensures.grows c.walk.ensures.grows in (
      omega arith,
      record {
        set = set_on c.requires.set g c.in_ok-subject.ensures.walked.noted.ready;
        wanted = wanted_grows _ _ g c.args.wanted c.requires.wanted;
        subject = type_grows _ _ c.walk.ensures.grows c.in_ok-ty.ty c.in_ok-ty.ensures.held;
        patterns = rw c.new-patterns.ensures (All-nil _);
        resolved = rw (world_stays _ _ g c.args.world.now c.requires.set.world) h.2;
      },
    )

pub walk_matched-returns-clause-walked : goal.walk_matched-returns-clause-walked
walk_matched-returns-clause-walked t c =
    let u = c.in_ok-ty.ensures in
    let r = rw c.new-patterns.ensures at c.in_ok-arms.ensures.arms in
    IfOk-weaker c.make.result _ _ (λ id m. match_walked c.args.token true (expression_of c.args.value.now) (more_branches (more_alternatives (first_form (code.patterns c.args.pattern.now)) (side_by_side (code.patterns c.args.pattern.now)) no_alternatives) (expression_of c.args.body.now) no_branches) c.requires c.in_ok-place.place c.in_ok-place.ensures.place c.in_ok-place.ensures.noted u.tree u.held u.noted c.new_unknown.ensures.grows c.in_ok-subject.ensures.walked c.walk.ensures.grows r c.walk_branch.ensures.grows c.fill.ensures.equations c.fill.ensures.takers c.fill.ensures.matches m) c.make.ensures.made

pub walk_branches-returns-in_default-clause-arms : goal.walk_branches-returns-in_default-clause-arms
walk_branches-returns-in_default-clause-arms t c =
    rw (no_elements c.args.list.now c.in_default.ensures.cases) (IfOk-weaker c.make.result _ _ (λ id m. no_arms c.args.patterns.now c.make.ensures.grows c.requires.patterns m) c.make.ensures.made)

pub walk_branches-walk_branch-requires : goal.walk_branches-walk_branch-requires
walk_branches-walk_branch-requires t c =
    let e = sym c.as_slice.ensures ∙ c.in-Some-split_first.ensures.cases.0 in
    (omega (arith, branches_split c.args.list.now c.in-Some.others.now c.in-Some.branch.now c.in-Some.ensures.cases.0), rw c.as_slice-first.ensures (rw e at (rw c.in-Some.ensures.cases.0 at c.requires)))

pub walk_branches-returns-in-Some-split_first-clause-arms : goal.walk_branches-returns-in-Some-split_first-clause-arms
walk_branches-returns-in-Some-split_first-clause-arms t c =
    let s = c.args.store.now in
    let e = sym c.as_slice.ensures ∙ c.in-Some-split_first.ensures.cases.0 in
    let others = branches_of c.in-Some.others.now in
    let body = expression_of c.in-Some.branch.now.body in
    let rest = alternatives_of c.in-Some-split_first.rest.now in
    let same = ap branches_of c.in-Some.ensures.cases.0 ∙ (ap (λ (pss : List (List Pat)). more_branches (alternatives_of pss) body others) e ∙ ap (λ (ps : List Pat). more_branches (more_alternatives (first_form (code.patterns ps)) (side_by_side (code.patterns ps)) rest) body others) (sym c.as_slice-first.ensures)) in
    subst (λ (x : MatchBranches). IfOk c.walk_branch.result (AreArms (branches_arms (where_at s c.args.world.now) (locals_at s c.args.locals.now) (length c.args.draft.now.takers) (tree_at s c.args.subject) (option_map (tree_at s) c.args.wanted) x) (due c.args.wanted) s c.args.draft.now c.args.patterns.now c.walk_branch.new.store c.walk_branch.new.draft c.walk_branch.new.patterns)) (sym same) c.walk_branch.ensures.arms

pub walk_branches-walk-requires : goal.walk_branches-walk-requires
walk_branches-walk-requires t c =
    let e = no_elements c.in-Some.branch.now.alternatives (ap length (sym c.as_slice.ensures) ∙ c.in-None.ensures.cases) in
    let h = in_branches (where_at c.args.store.now c.args.world.now) (names_of_locals c.args.locals.now) (is_due c.args.wanted) no_alternatives (expression_of c.in-Some.branch.now.body) (branches_of c.in-Some.others.now) (rw e at (rw c.in-Some.ensures.cases.0 at c.requires.resolved)) in
    (omega (arith, branches_split c.args.list.now c.in-Some.others.now c.in-Some.branch.now c.in-Some.ensures.cases.0), go_on c.requires.set (Grows_refl _) c.requires.set.ready c.requires.wanted h.0)

pub walk_branches-walk_branches-requires : goal.walk_branches-walk_branches-requires
walk_branches-walk_branches-requires t c =
    let g = c.walk.ensures.grows in
    let e = no_elements c.in-Some.branch.now.alternatives (ap length (sym c.as_slice.ensures) ∙ c.in-None.ensures.cases) in
    let h = in_branches (where_at c.args.store.now c.args.world.now) (names_of_locals c.args.locals.now) (is_due c.args.wanted) no_alternatives (expression_of c.in-Some.branch.now.body) (branches_of c.in-Some.others.now) (rw e at (rw c.in-Some.ensures.cases.0 at c.requires.resolved)) in (
      omega (arith, branches_split c.args.list.now c.in-Some.others.now c.in-Some.branch.now c.in-Some.ensures.cases.0, some_size (code.tree_of c.in-Some.branch.now.body)),
      record {
        set = set_on c.requires.set g c.in_ok-walk-in-None.ensures.walked.noted.ready;
        wanted = wanted_grows _ _ g c.args.wanted c.requires.wanted;
        subject = type_grows _ _ g c.args.subject c.requires.subject;
        patterns = ids_grow _ _ g c.args.patterns.now c.requires.patterns;
        resolved = rw (world_stays _ _ g c.args.world.now c.requires.set.world) h.1;
      },
    )

pub walk_branches-returns-in_ok-walk-in-None-clause-arms : goal.walk_branches-returns-in_ok-walk-in-None-clause-arms
walk_branches-returns-in_ok-walk-in-None-clause-arms t c =
    let s = c.args.store.now in
    let n : ℕ = length c.args.draft.now.takers in
    let g = c.walk.ensures.grows in
    let e = no_elements c.in-Some.branch.now.alternatives (ap length (sym c.as_slice.ensures) ∙ c.in-None.ensures.cases) in
    let want : Option Tree = option_map (tree_at s) c.args.wanted in
    let zero' : n ≡ n + 0 = omega arith in
    let p = piece (where_at s c.args.world.now) (locals_at s c.args.locals.now) (n + 0) want (expression_of c.in-Some.branch.now.body) in
    let body = as_begun c.requires.set (Grows_refl s) c.args.wanted (expression_of c.in-Some.branch.now.body) (n + 0) want zero' refl c.in_ok-walk-in-None.ensures.walked in
    let l = next body.noted ∙ ap (λ (j : ℕ). j + taken p.notes) zero' in
    rw (c.in-Some.ensures.cases.0, e) (IfOk-weaker c.walk_branches.result _ _ (λ id r. branch_dropped c.requires.patterns body g (as_arms c.requires.set g c.args.wanted c.args.subject (branches_of c.in-Some.others.now) (unknown_after (n + 0) p) (tree_at s c.args.subject) want l (type_stays _ _ g c.args.subject c.requires.subject) (wanted_stays _ _ g c.args.wanted c.requires.wanted) r)) c.walk_branches.ensures.arms)

pub walk-returns-in-Int-clause-walked : goal.walk-returns-in-Int-clause-walked
walk-returns-in-Int-clause-walked t c = rw (expression_at-Int c.args.e.now c.in-Int.value c.in-Int.is) c.walk_literal.ensures.walked

pub walk_match-fill-requires : goal.walk_match-fill-requires
walk_match-fill-requires t c =
    omega (arith, c.in_ok-place.ensures.place, matches_more c.in_ok-place.ensures.noted, matches_more c.in_ok-ty.ensures.noted, matches_more c.in_ok-subject.ensures.walked.noted, matches_more c.in_ok-arms.ensures.arms.noted)

pub walk_matched-fill-requires : goal.walk_matched-fill-requires
walk_matched-fill-requires t c =
    omega (arith, c.in_ok-place.ensures.place, matches_more c.in_ok-place.ensures.noted, matches_more c.in_ok-ty.ensures.noted, matches_more c.in_ok-subject.ensures.walked.noted, matches_more c.in_ok-arms.ensures.arms.noted)

pub walk_match-make-requires-clause-fits : goal.walk_match-make-requires-clause-fits
walk_match-make-requires-clause-fits t c =
    let s2 = c.walk_group.new.store in
    let s3 = c.walk_branches.new.store in
    let subject = c.in_ok-subject.ensures.walked in
    let arms = c.in_ok-arms.ensures.arms in
    let bs = branches_of c.args.branches.now in
    let h = in_cases (where_at c.args.store.now c.args.world.now) (names_of_locals c.args.locals.now) (is_due c.args.wanted) c.args.token false (grouped (first_tree (code.trees (map code.tree_of c.args.values.now))) (expressions_of c.args.values.now)) bs c.requires.resolved in
    let cell = has_arm (where_at s2 c.args.world.now) (locals_at s2 c.args.locals.now) (tree_at s2 c.in_ok-ty.ty) (option_map (tree_at s2) c.args.wanted) bs (length c.walk_group.new.draft.takers) h.1 in
    case_fits (tree_at s3 c.in_ok-subject.subject) (tree_at s3 c.in_ok-arms.arms) (grown_sort s2 s3 c.walk_branches.ensures.grows subject.held subject.sort) arms.branches (ap head_of arms.tree ∙ cell)

-- ---- the store grows
pub walk-returns-in_ok-equate-in-Cast-clause-grows : goal.walk-returns-in_ok-equate-in-Cast-clause-grows
walk-returns-in_ok-equate-in-Cast-clause-grows t c = Grows_trans _ _ _ c.type_of_form.ensures.grows c.walk.ensures.grows

pub walk-returns-in_ok-a-in-Not-clause-grows : goal.walk-returns-in_ok-a-in-Not-clause-grows
walk-returns-in_ok-a-in-Not-clause-grows t c = Grows_trans _ _ _ c.walk-in-Not.ensures.grows c.make-in-Not.ensures.grows

pub walk-returns-in_ok-b-in-Connective-clause-grows : goal.walk-returns-in_ok-b-in-Connective-clause-grows
walk-returns-in_ok-b-in-Connective-clause-grows t c = Grows_trans _ _ _ c.walk-in-Connective.ensures.grows (Grows_trans _ _ _ c.walk-in-Connective-2.ensures.grows c.make-in-Connective.ensures.grows)

pub walk-returns-in_err-b-in-Connective-clause-grows : goal.walk-returns-in_err-b-in-Connective-clause-grows
walk-returns-in_err-b-in-Connective-clause-grows t c = Grows_trans _ _ _ c.walk-in-Connective.ensures.grows c.walk-in-Connective-2.ensures.grows

pub walk-returns-in_ok-b-in-Equality-clause-grows : goal.walk-returns-in_ok-b-in-Equality-clause-grows
walk-returns-in_ok-b-in-Equality-clause-grows t c = Grows_trans _ _ _ c.new_unknown.ensures.grows (Grows_trans _ _ _ c.walk-in-Equality.ensures.grows (Grows_trans _ _ _ c.walk-in-Equality-2.ensures.grows c.make_equality.ensures.grows))

pub walk-returns-in_err-a-in-Equality-clause-grows : goal.walk-returns-in_err-a-in-Equality-clause-grows
walk-returns-in_err-a-in-Equality-clause-grows t c = Grows_trans _ _ _ c.new_unknown.ensures.grows c.walk-in-Equality.ensures.grows

pub walk-returns-in_err-b-in-Equality-clause-grows : goal.walk-returns-in_err-b-in-Equality-clause-grows
walk-returns-in_err-b-in-Equality-clause-grows t c = Grows_trans _ _ _ c.new_unknown.ensures.grows (Grows_trans _ _ _ c.walk-in-Equality.ensures.grows c.walk-in-Equality-2.ensures.grows)

pub walk-returns-in_ok-b-in-If-clause-grows : goal.walk-returns-in_ok-b-in-If-clause-grows
walk-returns-in_ok-b-in-If-clause-grows t c = Grows_trans _ _ _ c.walk-in-If.ensures.grows (Grows_trans _ _ _ c.walk-in-If-2.ensures.grows (Grows_trans _ _ _ c.walk-in-If-3.ensures.grows c.make-in-If.ensures.grows))

pub walk-returns-in_err-a-in-If-clause-grows : goal.walk-returns-in_err-a-in-If-clause-grows
walk-returns-in_err-a-in-If-clause-grows t c = Grows_trans _ _ _ c.walk-in-If.ensures.grows c.walk-in-If-2.ensures.grows

pub walk-returns-in_err-b-in-If-clause-grows : goal.walk-returns-in_err-b-in-If-clause-grows
walk-returns-in_err-b-in-If-clause-grows t c = Grows_trans _ _ _ c.walk-in-If.ensures.grows (Grows_trans _ _ _ c.walk-in-If-2.ensures.grows c.walk-in-If-3.ensures.grows)

pub walk-returns-in_ok-b-in-Some-clause-grows : goal.walk-returns-in_ok-b-in-Some-clause-grows
walk-returns-in_ok-b-in-Some-clause-grows t c = Grows_trans _ _ _ c.new_unknown-in-Some.ensures.grows (Grows_trans _ _ _ c.walk-in-Some.ensures.grows (Grows_trans _ _ _ c.walk-in-Some-2.ensures.grows c.make-in-Some.ensures.grows))

pub walk-returns-in_err-a-in-Some-clause-grows : goal.walk-returns-in_err-a-in-Some-clause-grows
walk-returns-in_err-a-in-Some-clause-grows t c = Grows_trans _ _ _ c.new_unknown-in-Some.ensures.grows c.walk-in-Some.ensures.grows

pub walk-returns-in_err-b-in-Some-clause-grows : goal.walk-returns-in_err-b-in-Some-clause-grows
walk-returns-in_err-b-in-Some-clause-grows t c = Grows_trans _ _ _ c.new_unknown-in-Some.ensures.grows (Grows_trans _ _ _ c.walk-in-Some.ensures.grows c.walk-in-Some-2.ensures.grows)

pub walk_symbol-returns-clause-grows : goal.walk_symbol-returns-clause-grows
walk_symbol-returns-clause-grows t c = Grows_trans _ _ _ c.begin_use.ensures.grows (Grows_trans _ _ _ c.types_put.ensures.grows (Grows_trans _ _ _ c.walk_all.ensures.grows c.finish_use.ensures.grows))

pub walk_symbol-returns-in_err-parameters-clause-grows : goal.walk_symbol-returns-in_err-parameters-clause-grows
walk_symbol-returns-in_err-parameters-clause-grows t c = Grows_trans _ _ _ c.begin_use.ensures.grows c.types_put.ensures.grows

pub walk_symbol-returns-in_err-args-clause-grows : goal.walk_symbol-returns-in_err-args-clause-grows
walk_symbol-returns-in_err-args-clause-grows t c = Grows_trans _ _ _ c.begin_use.ensures.grows (Grows_trans _ _ _ c.types_put.ensures.grows c.walk_all.ensures.grows)

pub walk_all-returns-clause-grows : goal.walk_all-returns-clause-grows
walk_all-returns-clause-grows t c = Grows_trans _ _ _ c.walk.ensures.grows (Grows_trans _ _ _ c.walk_all.ensures.grows c.make-2.ensures.grows)

pub walk_all-returns-in_err-b-clause-grows : goal.walk_all-returns-in_err-b-clause-grows
walk_all-returns-in_err-b-clause-grows t c = Grows_trans _ _ _ c.walk.ensures.grows c.walk_all.ensures.grows

pub walk_quantified-returns-clause-grows : goal.walk_quantified-returns-clause-grows
walk_quantified-returns-clause-grows t c = Grows_trans _ _ _ c.bind.ensures.grows (Grows_trans _ _ _ c.walk_triggers.ensures.grows (Grows_trans _ _ _ c.walk.ensures.grows c.quantify.ensures.grows))

pub walk_quantified-returns-in_err-walk_triggers-clause-grows : goal.walk_quantified-returns-in_err-walk_triggers-clause-grows
walk_quantified-returns-in_err-walk_triggers-clause-grows t c = Grows_trans _ _ _ c.bind.ensures.grows c.walk_triggers.ensures.grows

pub walk_quantified-returns-in_err-inner-clause-grows : goal.walk_quantified-returns-in_err-inner-clause-grows
walk_quantified-returns-in_err-inner-clause-grows t c = Grows_trans _ _ _ c.bind.ensures.grows (Grows_trans _ _ _ c.walk_triggers.ensures.grows c.walk.ensures.grows)

pub walk_terms-returns-clause-grows : goal.walk_terms-returns-clause-grows
walk_terms-returns-clause-grows t c = Grows_trans _ _ _ c.trigger_type.ensures.grows (Grows_trans _ _ _ c.walk.ensures.grows c.walk_terms.ensures.grows)

pub walk_terms-returns-in_err-walk-clause-grows : goal.walk_terms-returns-in_err-walk-clause-grows
walk_terms-returns-in_err-walk-clause-grows t c = Grows_trans _ _ _ c.trigger_type.ensures.grows c.walk.ensures.grows

pub walk_match-returns-clause-grows : goal.walk_match-returns-clause-grows
walk_match-returns-clause-grows t c = Grows_trans _ _ _ c.new_unknown.ensures.grows (Grows_trans _ _ _ c.walk_group.ensures.grows (Grows_trans _ _ _ c.walk_branches.ensures.grows c.make.ensures.grows))

pub walk_match-returns-in_err-subject-clause-grows : goal.walk_match-returns-in_err-subject-clause-grows
walk_match-returns-in_err-subject-clause-grows t c = Grows_trans _ _ _ c.new_unknown.ensures.grows c.walk_group.ensures.grows

pub walk_match-returns-in_err-arms-clause-grows : goal.walk_match-returns-in_err-arms-clause-grows
walk_match-returns-in_err-arms-clause-grows t c = Grows_trans _ _ _ c.new_unknown.ensures.grows (Grows_trans _ _ _ c.walk_group.ensures.grows c.walk_branches.ensures.grows)

pub walk_matched-returns-clause-grows : goal.walk_matched-returns-clause-grows
walk_matched-returns-clause-grows t c = Grows_trans _ _ _ c.new_unknown.ensures.grows (Grows_trans _ _ _ c.walk.ensures.grows (Grows_trans _ _ _ c.walk_branch.ensures.grows c.make.ensures.grows))

pub walk_matched-returns-in_err-subject-clause-grows : goal.walk_matched-returns-in_err-subject-clause-grows
walk_matched-returns-in_err-subject-clause-grows t c = Grows_trans _ _ _ c.new_unknown.ensures.grows c.walk.ensures.grows

pub walk_matched-returns-in_err-arms-clause-grows : goal.walk_matched-returns-in_err-arms-clause-grows
walk_matched-returns-in_err-arms-clause-grows t c = Grows_trans _ _ _ c.new_unknown.ensures.grows (Grows_trans _ _ _ c.walk.ensures.grows c.walk_branch.ensures.grows)

pub walk_branches-returns-in_ok-walk-in-None-clause-grows : goal.walk_branches-returns-in_ok-walk-in-None-clause-grows
walk_branches-returns-in_ok-walk-in-None-clause-grows t c = Grows_trans _ _ _ c.walk.ensures.grows c.walk_branches.ensures.grows

pub walk_branch-returns-clause-grows : goal.walk_branch-returns-clause-grows
walk_branch-returns-clause-grows t c = Grows_trans _ _ _ c.walk_alternatives.ensures.grows (Grows_trans _ _ _ c.walk.ensures.grows (Grows_trans _ _ _ c.walk_branches.ensures.grows c.push_arms.ensures.grows))

pub walk_branch-returns-in_err-body-clause-grows : goal.walk_branch-returns-in_err-body-clause-grows
walk_branch-returns-in_err-body-clause-grows t c = Grows_trans _ _ _ c.walk_alternatives.ensures.grows c.walk.ensures.grows

pub walk_branch-returns-in_err-list-clause-grows : goal.walk_branch-returns-in_err-list-clause-grows
walk_branch-returns-in_err-list-clause-grows t c = Grows_trans _ _ _ c.walk_alternatives.ensures.grows (Grows_trans _ _ _ c.walk.ensures.grows c.walk_branches.ensures.grows)

-- ---- the fields of a record
pub walk_record-begin_use-requires-clause-info : goal.walk_record-begin_use-requires-clause-info
walk_record-begin_use-requires-clause-info t c = rw (sym c.entry_at-info.ensures) at (got_one {X = SymbolInfo} (SymbolTyped c.args.store.now) c.args.world.now.symbols.now c.in_ok-owner.owner c.requires.set.world.symbols)

pub walk_record-types_put-requires-clause-args : goal.walk_record-types_put-requires-clause-args
walk_record-types_put-requires-clause-args t c =
    let typed = rw (sym c.entry_at-info.ensures) at (got_one {X = SymbolInfo} (SymbolTyped c.args.store.now) c.args.world.now.symbols.now c.in_ok-owner.owner c.requires.set.world.symbols) in
    types_grow _ _ c.begin_use.ensures.grows c.entry_args.result.now (c.entry_args.ensures.held c.args.store.now typed)

pub walk_record-walk_all-requires : goal.walk_record-walk_all-requires
walk_record-walk_all-requires t c =
    let g = Grows_trans _ _ _ c.begin_use.ensures.grows c.types_put.ensures.grows in
    let can = can_record c.args.token (value_fields_of c.args.fields.now) (field_values_of c.args.fields.now) c.requires in
    (omega arith, go_all can g (ready_grows _ _ c.types_put.ensures.grows c.begin_use.new.draft c.in_ok-types.ensures.begun.noted.ready) (rw c.as_slice-3.ensures.value c.in_ok-own.ensures.held))

pub walk_record-finish_use-requires-clause-types : goal.walk_record-finish_use-requires-clause-types
walk_record-finish_use-requires-clause-types t c =
    let g = Grows_trans _ _ _ (Grows_trans _ _ _ c.types_put.ensures.grows c.walk_all.ensures.grows) c.place_values.ensures.grows in
    rw c.as_slice-5.ensures.value (types_grow _ _ g c.in_ok-types.types.items c.in_ok-types.ensures.begun.held)

pub walk_record-finish_use-requires-clause-wanted : goal.walk_record-finish_use-requires-clause-wanted
walk_record-finish_use-requires-clause-wanted t c =
    let g = Grows_trans _ _ _ (Grows_trans _ _ _ (Grows_trans _ _ _ c.begin_use.ensures.grows c.types_put.ensures.grows) c.walk_all.ensures.grows) c.place_values.ensures.grows in
    wanted_grows _ _ g c.args.wanted c.requires.wanted

pub walk_record-returns-clause-walked : goal.walk_record-returns-clause-walked
walk_record-returns-clause-walked t c =
    let s = c.args.store.now in
    let k = c.in_ok-owner.owner in
    let typed = rw (sym c.entry_at-info.ensures) at (got_one {X = SymbolInfo} (SymbolTyped s) c.args.world.now.symbols.now k c.requires.set.world.symbols) in
    let e = symbol_got s (option_copied c.entry_at-info.result) in
    let g = c.begin_use.ensures.grows in
    let same = entry_got s c.args.world.now.symbols.now k ∙ ap (symbol_got s) (sym c.entry_at-info.ensures) in
    let args = types_stay _ _ g c.entry_args.result.now (c.entry_args.ensures.held s typed) ∙ c.entry_args.ensures.trees s in
    let put = rw c.as_slice.ensures.value at c.in_ok-parameters.ensures.trees in
    let own = rw (c.as_slice-parameters.ensures.value, c.as_slice-2.ensures.value) at c.in_ok-own.ensures.trees in
    let can = can_record c.args.token (value_fields_of c.args.fields.now) (field_values_of c.args.fields.now) c.requires in
    let walked = rw c.as_slice-3.ensures.value at c.in_ok-values.ensures.walked in
    let placed = rw (c.as_slice-4.ensures.value, c.as_slice-parameters.ensures.value) at c.in_ok-args.ensures.tree in
    let made = rw c.as_slice-5.ensures.value at c.finish_use.ensures.made in
    IfOk-weaker c.finish_use.result _ _ (λ id m. record_written c.args.world.now c.args.locals.now c.args.wanted c.args.token (field_values_of c.args.fields.now) (value_fields_of c.args.fields.now) k c.in_ok-places.places.items (c.in_ok-owner.ensures s) (c.in_ok-places.ensures s) (record_walked can c.in_ok-parameters.parameters.items c.entry_args.result.now c.in_ok-own.own.items c.in_ok-args.args k c.in_ok-places.places.items e same c.in_ok-types.ensures.begun g c.types_put.ensures.grows put args own walked c.walk_all.ensures.grows c.place_values.ensures.grows placed m)) made
