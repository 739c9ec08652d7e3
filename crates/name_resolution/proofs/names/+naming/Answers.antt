use Rattle.std.proofs.Common.{◌≡◌, [], Ok, Err, None, refl, sym, ap, subst, ◌∙◌}
use Rattle.surface.specs.Lexeme.{Word}
use Rattle.surface.specs.Surface.{own_of}
use Rattle.name_resolution.specs.Abstract.{expressions_of, connective_operator, equality_operator, symbol_operator, text_of_own}
use Rattle.name_resolution.specs.Faults.{fault_if}
use Rattle.name_resolution.specs.declared.NamingFault.TheVariants.{WrongKind}
use Rattle.name_resolution.specs.Naming.{Tells, where_at, names_at, operation_at}
use Rattle.name_resolution.proofs.Nodes.{triggers_at-Some, expression_at-Match, expression_at-Apply, expression_at-Int, expression_at-True, expression_at-False, expression_at-Cast, expression_at-Dot, expression_at-Fields, expression_at-Not, expression_at-If, expression_at-Group, expression_at-Prefix, expression_at-Quant}
use Rattle.name_resolution.proofs.Operated.{operated_as, bound_as}
use Rattle.name_resolution.proofs.Told.{of_first, of_rest, passed, counted, told_values, group_many, first_alone, name_same, due_group, let_as, whole_fault, whole_names, tells}
use Rattle.name_resolution.proofs.names.+naming.Goals as goal

pub check-returns-in_err-check_name-in-Apply : goal.check-returns-in_err-check_name-in-Apply
check-returns-in_err-check_name-in-Apply t c s =
    let is = expression_at-Apply c.args.e.now c.in-Apply.name c.in-Apply.arguments c.in-Apply.is in
    let n = c.len.ensures ∙ sym (counted c.in-Apply.arguments) in
    let own = c.as_slice-in-Apply.ensures ∙ c.in_ok-own-in-Apply.ensures ∙ ap (λ (x : Word). text_of_own (own_of c.in-Apply.name.style x)) c.as_slice.ensures in
    let same = name_same (where_at s c.args.world.now) (names_at c.args.names.now) c.args.due c.args.e.now.at.main c.as_slice-scopes.ensures own n in
    let e = c.in_err-check_name-in-Apply.field-0.0 in
    passed c.from_residual-in_err-check_name-in-Apply.result e _ c.from_residual-in_err-check_name-in-Apply.ensures.1 (rw is (of_first e _ _ (subst (Tells (Err e)) same (c.in_err-check_name-in-Apply.ensures s))))

pub check-returns-in_ok-check_name-in-Apply : goal.check-returns-in_ok-check_name-in-Apply
check-returns-in_ok-check_name-in-Apply t c s =
    let is = expression_at-Apply c.args.e.now c.in-Apply.name c.in-Apply.arguments c.in-Apply.is in
    let n = c.len.ensures ∙ sym (counted c.in-Apply.arguments) in
    let own = c.as_slice-in-Apply.ensures ∙ c.in_ok-own-in-Apply.ensures ∙ ap (λ (x : Word). text_of_own (own_of c.in-Apply.name.style x)) c.as_slice.ensures in
    let same = name_same (where_at s c.args.world.now) (names_at c.args.names.now) c.args.due c.args.e.now.at.main c.as_slice-scopes.ensures own n in
    rw is (of_rest c.check_all.result _ _ (sym same ∙ c.in_ok-check_name-in-Apply.ensures s) (rw c.as_slice-in-Apply-2.ensures at c.check_all.ensures s))

pub check-returns-in_err-refuse_if-in-Cast : goal.check-returns-in_err-refuse_if-in-Cast
check-returns-in_err-refuse_if-in-Cast t c s =
    let is = expression_at-Cast c.args.e.now c.in-Cast.inner c.in-Cast.ty c.in-Cast.is in
    passed c.from_residual-in_err-refuse_if-in-Cast.result c.in_err-refuse_if-in-Cast.field-0.0 _ c.from_residual-in_err-refuse_if-in-Cast.ensures.1 (rw is (of_first c.in_err-refuse_if-in-Cast.field-0.0 _ _ (tells _ _ c.in_err-refuse_if-in-Cast.ensures)))

pub check-returns-in_err-check-in-Cast : goal.check-returns-in_err-check-in-Cast
check-returns-in_err-check-in-Cast t c s =
    let is = expression_at-Cast c.args.e.now c.in-Cast.inner c.in-Cast.ty c.in-Cast.is in
    passed c.from_residual-in_err-check-in-Cast.result c.in_err-check-in-Cast.field-0.0 _ c.from_residual-in_err-check-in-Cast.ensures.1 (rw is (of_rest (Err c.in_err-check-in-Cast.field-0.0) _ _ (tells _ _ c.in_ok-refuse_if-in-Cast.ensures) (of_first c.in_err-check-in-Cast.field-0.0 _ _ (rw c.get.ensures at c.in_err-check-in-Cast.ensures s))))

pub check-returns-in_ok-check-in-Cast : goal.check-returns-in_ok-check-in-Cast
check-returns-in_ok-check-in-Cast t c s =
    let is = expression_at-Cast c.args.e.now c.in-Cast.inner c.in-Cast.ty c.in-Cast.is in
    rw is (of_rest c.check_form.result _ _ (tells _ _ c.in_ok-refuse_if-in-Cast.ensures) (of_rest c.check_form.result _ _ (rw c.get.ensures at c.in_ok-check-in-Cast.ensures s) (c.check_form.ensures s)))

pub check-returns-in_err-check-in-Dot : goal.check-returns-in_err-check-in-Dot
check-returns-in_err-check-in-Dot t c s =
    let is = expression_at-Dot c.args.e.now c.in-Dot.inner c.in-Dot.field c.in-Dot.is in
    passed c.from_residual-in_err-check-in-Dot.result c.in_err-check-in-Dot.field-0.0 _ c.from_residual-in_err-check-in-Dot.ensures.1 (rw is (of_first c.in_err-check-in-Dot.field-0.0 _ _ (rw c.get-in-Dot.ensures at c.in_err-check-in-Dot.ensures s)))

pub check-returns-in_ok-check-in-Dot : goal.check-returns-in_ok-check-in-Dot
check-returns-in_ok-check-in-Dot t c s =
    let is = expression_at-Dot c.args.e.now c.in-Dot.inner c.in-Dot.field c.in-Dot.is in
    rw is (of_rest c.check_field.result _ _ (rw c.get-in-Dot.ensures at c.in_ok-check-in-Dot.ensures s) (rw (c.as_slice-in-Dot-2.ensures, c.as_slice-in-Dot-3.ensures, c.in_ok-own-in-Dot.ensures, c.as_slice-in-Dot.ensures) at c.check_field.ensures s))

pub check-returns-in_err-refuse_if-in-Not : goal.check-returns-in_err-refuse_if-in-Not
check-returns-in_err-refuse_if-in-Not t c s =
    let is = expression_at-Not c.args.e.now c.in-Not.inner c.in-Not.is in
    passed c.from_residual-in_err-refuse_if-in-Not.result c.in_err-refuse_if-in-Not.field-0.0 _ c.from_residual-in_err-refuse_if-in-Not.ensures.1 (rw is (of_first c.in_err-refuse_if-in-Not.field-0.0 _ _ (tells _ _ c.in_err-refuse_if-in-Not.ensures)))

pub check-returns-in_ok-refuse_if-in-Not : goal.check-returns-in_ok-refuse_if-in-Not
check-returns-in_ok-refuse_if-in-Not t c s =
    let is = expression_at-Not c.args.e.now c.in-Not.inner c.in-Not.is in
    rw is (of_rest c.check-in-Not.result _ _ (tells _ _ c.in_ok-refuse_if-in-Not.ensures) (rw c.get-in-Not.ensures at c.check-in-Not.ensures s))

pub check-returns-in_err-check-in-If : goal.check-returns-in_err-check-in-If
check-returns-in_err-check-in-If t c s =
    let is = expression_at-If c.args.e.now c.in-If.test c.in-If.left c.in-If.right c.in-If.is in
    passed c.from_residual-in_err-check-in-If.result c.in_err-check-in-If.field-0.0 _ c.from_residual-in_err-check-in-If.ensures.1 (rw is (of_first c.in_err-check-in-If.field-0.0 _ _ (rw c.get-in-If.ensures at c.in_err-check-in-If.ensures s)))

pub check-returns-in_err-check-in-If-2 : goal.check-returns-in_err-check-in-If-2
check-returns-in_err-check-in-If-2 t c s =
    let is = expression_at-If c.args.e.now c.in-If.test c.in-If.left c.in-If.right c.in-If.is in
    passed c.from_residual-in_err-check-in-If-2.result c.in_err-check-in-If-2.field-0.0 _ c.from_residual-in_err-check-in-If-2.ensures.1 (rw is (of_rest (Err c.in_err-check-in-If-2.field-0.0) _ _ (rw c.get-in-If.ensures at c.in_ok-check-in-If.ensures s) (of_first c.in_err-check-in-If-2.field-0.0 _ _ (rw c.get-in-If-2.ensures at c.in_err-check-in-If-2.ensures s))))

pub check-returns-in_ok-check-in-If-2 : goal.check-returns-in_ok-check-in-If-2
check-returns-in_ok-check-in-If-2 t c s =
    let is = expression_at-If c.args.e.now c.in-If.test c.in-If.left c.in-If.right c.in-If.is in
    rw is (of_rest c.check-in-If-3.result _ _ (rw c.get-in-If.ensures at c.in_ok-check-in-If.ensures s) (of_rest c.check-in-If-3.result _ _ (rw c.get-in-If-2.ensures at c.in_ok-check-in-If-2.ensures s) (rw c.get-in-If-3.ensures at c.check-in-If-3.ensures s)))

pub check-returns-in_err-check_name-in-Prefix : goal.check-returns-in_err-check_name-in-Prefix
check-returns-in_err-check_name-in-Prefix t c s =
    let is = expression_at-Prefix c.args.e.now c.in-Prefix.op c.in-Prefix.inner c.in-Prefix.is in
    let same = name_same (where_at s c.args.world.now) (names_at c.args.names.now) c.args.due c.args.e.now.at.main {qs = []} {qs' = []} {n = 1} {n' = 1} refl (c.as_slice-in-Prefix.ensures ∙ c.in_ok-own-in-Prefix.ensures) refl in
    let e = c.in_err-check_name-in-Prefix.field-0.0 in
    passed c.from_residual-in_err-check_name-in-Prefix.result e _ c.from_residual-in_err-check_name-in-Prefix.ensures.1 (rw is (of_first e _ _ (subst (Tells (Err e)) same (c.in_err-check_name-in-Prefix.ensures s))))

pub check-returns-in_ok-check_name-in-Prefix : goal.check-returns-in_ok-check_name-in-Prefix
check-returns-in_ok-check_name-in-Prefix t c s =
    let is = expression_at-Prefix c.args.e.now c.in-Prefix.op c.in-Prefix.inner c.in-Prefix.is in
    let same = name_same (where_at s c.args.world.now) (names_at c.args.names.now) c.args.due c.args.e.now.at.main {qs = []} {qs' = []} {n = 1} {n' = 1} refl (c.as_slice-in-Prefix.ensures ∙ c.in_ok-own-in-Prefix.ensures) refl in
    rw is (of_rest c.check-in-Prefix.result _ _ (sym same ∙ c.in_ok-check_name-in-Prefix.ensures s) (first_alone c.check-in-Prefix.result _ (rw c.get-in-Prefix.ensures at c.check-in-Prefix.ensures s)))

pub check-returns-in_err-check-in-Connective : goal.check-returns-in_err-check-in-Connective
check-returns-in_err-check-in-Connective t c s =
    let is = operated_as c.args.e.now c.in-Binary.left c.in-Binary.op c.in-Binary.right c.in-Binary.is (connective_operator c.in-Connective.field-0) (sym c.infix_operation.ensures ∙ ap operation_at c.in-Connective.is) in
    passed c.from_residual-in_err-check-in-Connective.result c.in_err-check-in-Connective.field-0.0 _ c.from_residual-in_err-check-in-Connective.ensures.1 (rw is (of_first c.in_err-check-in-Connective.field-0.0 _ _ (rw c.get-in-Connective.ensures at c.in_err-check-in-Connective.ensures s)))

pub check-returns-in_err-refuse_if-in-Connective : goal.check-returns-in_err-refuse_if-in-Connective
check-returns-in_err-refuse_if-in-Connective t c s =
    let is = operated_as c.args.e.now c.in-Binary.left c.in-Binary.op c.in-Binary.right c.in-Binary.is (connective_operator c.in-Connective.field-0) (sym c.infix_operation.ensures ∙ ap operation_at c.in-Connective.is) in
    passed c.from_residual-in_err-refuse_if-in-Connective.result c.in_err-refuse_if-in-Connective.field-0.0 _ c.from_residual-in_err-refuse_if-in-Connective.ensures.1 (rw is (of_rest (Err c.in_err-refuse_if-in-Connective.field-0.0) _ _ (rw c.get-in-Connective.ensures at c.in_ok-check-in-Connective.ensures s) (of_first c.in_err-refuse_if-in-Connective.field-0.0 _ _ (tells _ _ c.in_err-refuse_if-in-Connective.ensures))))

pub check-returns-in_ok-refuse_if-in-Connective : goal.check-returns-in_ok-refuse_if-in-Connective
check-returns-in_ok-refuse_if-in-Connective t c s =
    let is = operated_as c.args.e.now c.in-Binary.left c.in-Binary.op c.in-Binary.right c.in-Binary.is (connective_operator c.in-Connective.field-0) (sym c.infix_operation.ensures ∙ ap operation_at c.in-Connective.is) in
    rw is (of_rest c.check-in-Connective-2.result _ _ (rw c.get-in-Connective.ensures at c.in_ok-check-in-Connective.ensures s) (of_rest c.check-in-Connective-2.result _ _ (tells _ _ c.in_ok-refuse_if-in-Connective.ensures) (rw c.get-in-Connective-2.ensures at c.check-in-Connective-2.ensures s)))

pub check-returns-in_err-check-in-Equality : goal.check-returns-in_err-check-in-Equality
check-returns-in_err-check-in-Equality t c s =
    let is = operated_as c.args.e.now c.in-Binary.left c.in-Binary.op c.in-Binary.right c.in-Binary.is (equality_operator c.in-Equality.field-0) (sym c.infix_operation.ensures ∙ ap operation_at c.in-Equality.is) in
    passed c.from_residual-in_err-check-in-Equality.result c.in_err-check-in-Equality.field-0.0 _ c.from_residual-in_err-check-in-Equality.ensures.1 (rw is (of_first c.in_err-check-in-Equality.field-0.0 _ _ (rw c.get-in-Equality.ensures at c.in_err-check-in-Equality.ensures s)))

pub check-returns-in_err-refuse_if-in-Equality : goal.check-returns-in_err-refuse_if-in-Equality
check-returns-in_err-refuse_if-in-Equality t c s =
    let is = operated_as c.args.e.now c.in-Binary.left c.in-Binary.op c.in-Binary.right c.in-Binary.is (equality_operator c.in-Equality.field-0) (sym c.infix_operation.ensures ∙ ap operation_at c.in-Equality.is) in
    passed c.from_residual-in_err-refuse_if-in-Equality.result c.in_err-refuse_if-in-Equality.field-0.0 _ c.from_residual-in_err-refuse_if-in-Equality.ensures.1 (rw is (of_rest (Err c.in_err-refuse_if-in-Equality.field-0.0) _ _ (rw c.get-in-Equality.ensures at c.in_ok-check-in-Equality.ensures s) (of_first c.in_err-refuse_if-in-Equality.field-0.0 _ _ (tells _ _ c.in_err-refuse_if-in-Equality.ensures))))

pub check-returns-in_ok-refuse_if-in-Equality : goal.check-returns-in_ok-refuse_if-in-Equality
check-returns-in_ok-refuse_if-in-Equality t c s =
    let is = operated_as c.args.e.now c.in-Binary.left c.in-Binary.op c.in-Binary.right c.in-Binary.is (equality_operator c.in-Equality.field-0) (sym c.infix_operation.ensures ∙ ap operation_at c.in-Equality.is) in
    rw is (of_rest c.check-in-Equality-2.result _ _ (rw c.get-in-Equality.ensures at c.in_ok-check-in-Equality.ensures s) (of_rest c.check-in-Equality-2.result _ _ (tells _ _ c.in_ok-refuse_if-in-Equality.ensures) (rw c.get-in-Equality-2.ensures at c.check-in-Equality-2.ensures s)))

pub check-returns-in_err-check-in-Symbol : goal.check-returns-in_err-check-in-Symbol
check-returns-in_err-check-in-Symbol t c s =
    let is = operated_as c.args.e.now c.in-Binary.left c.in-Binary.op c.in-Binary.right c.in-Binary.is (symbol_operator c.in-Symbol.name.now) (sym c.infix_operation.ensures ∙ ap operation_at c.in-Symbol.is) in
    passed c.from_residual-in_err-check-in-Symbol.result c.in_err-check-in-Symbol.field-0.0 _ c.from_residual-in_err-check-in-Symbol.ensures.1 (rw is (of_first c.in_err-check-in-Symbol.field-0.0 _ _ (rw c.get-in-Symbol.ensures at c.in_err-check-in-Symbol.ensures s)))

pub check-returns-in_err-check_name-in-Symbol : goal.check-returns-in_err-check_name-in-Symbol
check-returns-in_err-check_name-in-Symbol t c s =
    let is = operated_as c.args.e.now c.in-Binary.left c.in-Binary.op c.in-Binary.right c.in-Binary.is (symbol_operator c.in-Symbol.name.now) (sym c.infix_operation.ensures ∙ ap operation_at c.in-Symbol.is) in
    passed c.from_residual-in_err-check_name-in-Symbol.result c.in_err-check_name-in-Symbol.field-0.0 _ c.from_residual-in_err-check_name-in-Symbol.ensures.1 (rw is (of_rest (Err c.in_err-check_name-in-Symbol.field-0.0) _ _ (rw c.get-in-Symbol.ensures at c.in_ok-check-in-Symbol.ensures s) (of_first c.in_err-check_name-in-Symbol.field-0.0 _ _ (c.in_err-check_name-in-Symbol.ensures s))))

pub check-returns-in_ok-check_name-in-Symbol : goal.check-returns-in_ok-check_name-in-Symbol
check-returns-in_ok-check_name-in-Symbol t c s =
    let is = operated_as c.args.e.now c.in-Binary.left c.in-Binary.op c.in-Binary.right c.in-Binary.is (symbol_operator c.in-Symbol.name.now) (sym c.infix_operation.ensures ∙ ap operation_at c.in-Symbol.is) in
    rw is (of_rest c.check-in-Symbol-2.result _ _ (rw c.get-in-Symbol.ensures at c.in_ok-check-in-Symbol.ensures s) (of_rest c.check-in-Symbol-2.result _ _ (c.in_ok-check_name-in-Symbol.ensures s) (rw c.get-in-Symbol-2.ensures at c.check-in-Symbol-2.ensures s)))

pub check-returns-in_err-check-in-Some : goal.check-returns-in_err-check-in-Some
check-returns-in_err-check-in-Some t c s =
    let is = bound_as c.args.e.now c.in-Let.patterns c.in-Let.value c.in-Let.body c.in-Let.is c.in-Some.name.now.text (rw (c.as_slice-in-Let.ensures, c.in-Some.is) at c.let_name.ensures) in
    passed c.from_residual-in_err-check-in-Some.result c.in_err-check-in-Some.field-0.0 _ c.from_residual-in_err-check-in-Some.ensures.1 (rw is (of_first c.in_err-check-in-Some.field-0.0 _ _ (rw c.get-in-Some.ensures at c.in_err-check-in-Some.ensures s)))

pub check-returns-in_ok-check-in-Some : goal.check-returns-in_ok-check-in-Some
check-returns-in_ok-check-in-Some t c s =
    let is = bound_as c.args.e.now c.in-Let.patterns c.in-Let.value c.in-Let.body c.in-Let.is c.in-Some.name.now.text (rw (c.as_slice-in-Let.ensures, c.in-Some.is) at c.let_name.ensures) in
    rw is (of_rest c.check-in-Some-2.result _ _ (rw c.get-in-Some.ensures at c.in_ok-check-in-Some.ensures s) (rw (c.get-in-Some-2.ensures, c.as_slice-in-Some.ensures) at c.check-in-Some-2.ensures s))

pub check-returns-in_err-refuse_if-in-Quant : goal.check-returns-in_err-refuse_if-in-Quant
check-returns-in_err-refuse_if-in-Quant t c s =
    let is = expression_at-Quant c.args.e.now c.in-Quant.field-0 c.in-Quant.binders c.in-Quant.triggers c.in-Quant.body c.in-Quant.is in
    passed c.from_residual-in_err-refuse_if-in-Quant.result c.in_err-refuse_if-in-Quant.field-0.0 _ c.from_residual-in_err-refuse_if-in-Quant.ensures.1 (rw is (of_first c.in_err-refuse_if-in-Quant.field-0.0 _ _ (tells _ _ c.in_err-refuse_if-in-Quant.ensures)))

pub check-returns-in_err-check_binders-in-Quant : goal.check-returns-in_err-check_binders-in-Quant
check-returns-in_err-check_binders-in-Quant t c s =
    let is = expression_at-Quant c.args.e.now c.in-Quant.field-0 c.in-Quant.binders c.in-Quant.triggers c.in-Quant.body c.in-Quant.is in
    passed c.from_residual-in_err-check_binders-in-Quant.result c.in_err-check_binders-in-Quant.field-0.0 _ c.from_residual-in_err-check_binders-in-Quant.ensures.1 (rw is (of_rest (Err c.in_err-check_binders-in-Quant.field-0.0) _ _ (tells _ _ c.in_ok-refuse_if-in-Quant.ensures) (of_first c.in_err-check_binders-in-Quant.field-0.0 _ _ (rw c.as_slice-in-Quant.ensures at c.in_err-check_binders-in-Quant.ensures s))))

pub check-returns-in_err-check_triggers-in-Quant : goal.check-returns-in_err-check_triggers-in-Quant
check-returns-in_err-check_triggers-in-Quant t c s =
    let is = expression_at-Quant c.args.e.now c.in-Quant.field-0 c.in-Quant.binders c.in-Quant.triggers c.in-Quant.body c.in-Quant.is in
    passed c.from_residual-in_err-check_triggers-in-Quant.result c.in_err-check_triggers-in-Quant.field-0.0 _ c.from_residual-in_err-check_triggers-in-Quant.ensures.1 (rw is (of_rest (Err c.in_err-check_triggers-in-Quant.field-0.0) _ _ (tells _ _ c.in_ok-refuse_if-in-Quant.ensures) (of_rest (Err c.in_err-check_triggers-in-Quant.field-0.0) _ _ (rw c.as_slice-in-Quant.ensures at c.in_ok-check_binders-in-Quant.ensures s) (of_first c.in_err-check_triggers-in-Quant.field-0.0 _ _ (rw c.as_slice-in-Quant-2.ensures at c.in_err-check_triggers-in-Quant.ensures s)))))

pub check-returns-in_ok-check_triggers-in-Quant : goal.check-returns-in_ok-check_triggers-in-Quant
check-returns-in_ok-check_triggers-in-Quant t c s =
    let is = expression_at-Quant c.args.e.now c.in-Quant.field-0 c.in-Quant.binders c.in-Quant.triggers c.in-Quant.body c.in-Quant.is in
    rw is (of_rest c.check-in-Quant.result _ _ (tells _ _ c.in_ok-refuse_if-in-Quant.ensures) (of_rest c.check-in-Quant.result _ _ (rw c.as_slice-in-Quant.ensures at c.in_ok-check_binders-in-Quant.ensures s) (of_rest c.check-in-Quant.result _ _ (rw c.as_slice-in-Quant-2.ensures at c.in_ok-check_triggers-in-Quant.ensures s) (rw (c.get-in-Quant.ensures, c.as_slice-in-Quant-2.ensures) at c.check-in-Quant.ensures s))))

pub check-returns-in-Int : goal.check-returns-in-Int
check-returns-in-Int t c s =
    let is = expression_at-Int c.args.e.now c.in-Int.field-0 c.in-Int.is in rw is (tells _ _ c.refuse_if.ensures)

pub check-returns-in-True : goal.check-returns-in-True
check-returns-in-True t c s =
    let is = expression_at-True c.args.e.now c.in-True.is in rw is (tells _ _ c.refuse_if-in-True.ensures)

pub check-returns-in-False : goal.check-returns-in-False
check-returns-in-False t c s =
    let is = expression_at-False c.args.e.now c.in-False.is in rw is (tells _ _ c.refuse_if-in-False.ensures)

pub check-returns-in-Group : goal.check-returns-in-Group
check-returns-in-Group t c s =
    let is = expression_at-Group c.args.e.now c.in-Group.parts c.in-Group.is in rw is (rw c.as_slice-in-Group.ensures at c.check_group.ensures s)

pub check_group-returns-in_err-refuse_if : goal.check_group-returns-in_err-refuse_if
check_group-returns-in_err-refuse_if t c s =
    let is = group_many c.args.token c.args.list.now c.if-list-eq1.false in
    passed c.from_residual.result c.in_err-refuse_if.field-0.0 _ c.from_residual.ensures.1 (rw is (of_first c.in_err-refuse_if.field-0.0 _ _ (tells _ _ c.in_err-refuse_if.ensures)))

pub check_triggers-returns-in-Some : goal.check_triggers-returns-in-Some
check_triggers-returns-in-Some t c s =
    rw (triggers_at-Some c.args.triggers.now c.in-Some.terms c.in-Some.is) (rw c.as_slice.ensures at c.check_terms.ensures s)

pub check-returns-in_err-check_all-in-Match : goal.check-returns-in_err-check_all-in-Match
check-returns-in_err-check_all-in-Match t c s =
    let is = expression_at-Match c.args.e.now c.in-Match.values c.in-Match.field-1 c.in-Match.branches c.in-Match.is in
    let e = c.in_err-check_all-in-Match.field-0.0 in
    passed c.from_residual-in_err-check_all-in-Match.result e _ c.from_residual-in_err-check_all-in-Match.ensures.1
    (rw is (of_first e _ _ (subst (Tells (Err e)) (due_group (where_at s c.args.world.now) c.args.world.now.new_vars (names_at c.args.names.now) _ (expressions_of c.in-Match.values)) (rw c.as_slice-in-Match.ensures at c.in_err-check_all-in-Match.ensures s))))

pub check-returns-in_ok-check_all-in-Match : goal.check-returns-in_ok-check_all-in-Match
check-returns-in_ok-check_all-in-Match t c s =
    let is = expression_at-Match c.args.e.now c.in-Match.values c.in-Match.field-1 c.in-Match.branches c.in-Match.is in
    rw is (of_rest c.check_cases.result _ _ (sym (due_group (where_at s c.args.world.now) c.args.world.now.new_vars (names_at c.args.names.now) _ (expressions_of c.in-Match.values)) ∙ (rw c.as_slice-in-Match.ensures at c.in_ok-check_all-in-Match.ensures s)) (rw c.as_slice-in-Match-2.ensures at c.check_cases.ensures s))

pub check_cases-returns-in_err-refuse_if : goal.check_cases-returns-in_err-refuse_if
check_cases-returns-in_err-refuse_if t c s =
    let e = c.in_err-refuse_if.field-0.0 in
    passed c.from_residual.result e _ c.from_residual.ensures.1 (of_first e _ _ (tells _ _ (rw c.has_alternative.ensures at c.in_err-refuse_if.ensures)))

pub check_cases-returns : goal.check_cases-returns
check_cases-returns t c s = of_rest c.check_branches.result _ _ (tells _ _ (rw c.has_alternative.ensures at c.in_ok-refuse_if.ensures)) (c.check_branches.ensures s)

pub check-returns-in_err-check_patterns-in-None : goal.check-returns-in_err-check_patterns-in-None
check-returns-in_err-check_patterns-in-None t c s =
    let is = let_as c.args.e.now c.in-Let.patterns c.in-Let.value c.in-Let.body c.in-Let.is (rw (c.as_slice-in-Let.ensures, c.in-None.is) at c.let_name.ensures) (where_at s c.args.world.now) c.args.world.now.new_vars (names_at c.args.names.now) c.args.due in
    let e = c.in_err-check_patterns-in-None.field-0.0 in
    let told = subst (Tells (Err e)) (whole_fault (where_at s c.args.world.now) [] c.in-Let.patterns) (rw (c.new-bound.ensures, c.as_slice-pattern.ensures) at c.in_err-check_patterns-in-None.ensures.fault s) in
    passed c.from_residual-in_err-check_patterns-in-None.result e _ c.from_residual-in_err-check_patterns-in-None.ensures.1 (subst (Tells (Err e)) (sym is) (of_first e _ _ told))

pub check-returns-in_err-check-in-None : goal.check-returns-in_err-check-in-None
check-returns-in_err-check-in-None t c s =
    let is = let_as c.args.e.now c.in-Let.patterns c.in-Let.value c.in-Let.body c.in-Let.is (rw (c.as_slice-in-Let.ensures, c.in-None.is) at c.let_name.ensures) (where_at s c.args.world.now) c.args.world.now.new_vars (names_at c.args.names.now) c.args.due in
    let e = c.in_err-check-in-None.field-0.0 in
    let pass = sym (whole_fault (where_at s c.args.world.now) [] c.in-Let.patterns) ∙ (rw (c.new-bound.ensures, c.as_slice-pattern.ensures) at c.in_ok-check_patterns-in-None.ensures.fault s) in
    passed c.from_residual-in_err-check-in-None.result e _ c.from_residual-in_err-check-in-None.ensures.1 (subst (Tells (Err e)) (sym is) (of_rest (Err e) _ _ pass (of_first e _ _ (rw c.get-in-None.ensures at c.in_err-check-in-None.ensures s))))

pub check-returns-in_ok-check-in-None : goal.check-returns-in_ok-check-in-None
check-returns-in_ok-check-in-None t c s =
    let is = let_as c.args.e.now c.in-Let.patterns c.in-Let.value c.in-Let.body c.in-Let.is (rw (c.as_slice-in-Let.ensures, c.in-None.is) at c.let_name.ensures) (where_at s c.args.world.now) c.args.world.now.new_vars (names_at c.args.names.now) c.args.due in
    let pass = sym (whole_fault (where_at s c.args.world.now) [] c.in-Let.patterns) ∙ (rw (c.new-bound.ensures, c.as_slice-pattern.ensures) at c.in_ok-check_patterns-in-None.ensures.fault s) in
    let bound = (rw (c.new-bound.ensures, c.as_slice-pattern.ensures) at c.in_ok-check_patterns-in-None.ensures.names) ∙ whole_names c.in-Let.patterns in
    let body = rw (c.get-in-None-2.ensures, c.as_slice-in-None.ensures, bound) at c.check-in-None-2.ensures s in
    subst (Tells c.check-in-None-2.result) (sym is) (of_rest c.check-in-None-2.result _ _ pass (of_rest c.check-in-None-2.result _ _ (rw c.get-in-None.ensures at c.in_ok-check-in-None.ensures s) body))

pub check_under-returns-in_err-check_alternatives : goal.check_under-returns-in_err-check_alternatives
check_under-returns-in_err-check_alternatives t c s =
    let e = c.in_err-check_alternatives.field-0.0 in
    passed c.from_residual.result e _ c.from_residual.ensures.1 (of_first e _ _ (c.in_err-check_alternatives.ensures.fault s))

pub check_under-returns : goal.check_under-returns
check_under-returns t c s =
    of_rest c.check.result _ _ (c.in_ok-check_alternatives.ensures.fault s) (rw (c.as_slice.ensures, c.in_ok-check_alternatives.ensures.names) at c.check.ensures s)

pub check-returns-in-Fields : goal.check-returns-in-Fields
check-returns-in-Fields t c s =
    let is = expression_at-Fields c.args.e.now c.in-Fields.fields c.in-Fields.field-1 c.in-Fields.is in
    rw is (rw c.as_slice-in-Fields.ensures at c.check_fields.ensures s)

pub check_fields-returns-in_err-refuse_if : goal.check_fields-returns-in_err-refuse_if
check_fields-returns-in_err-refuse_if t c s =
    passed c.from_residual.result c.in_err-refuse_if.field-0.0 _ c.from_residual.ensures.1 (of_first c.in_err-refuse_if.field-0.0 _ _ (tells _ _ c.in_err-refuse_if.ensures))

pub check_fields-returns-in_err-check_record : goal.check_fields-returns-in_err-check_record
check_fields-returns-in_err-check_record t c s =
    let e = c.in_err-check_record.field-0.0 in
    let none : fault_if c.args.due (WrongKind c.args.token) ≡ None = tells (Ok tt) (fault_if c.args.due (WrongKind c.args.token)) c.in_ok-refuse_if.ensures in
    let told = told_values (where_at s c.args.world.now) (Err e) c.args.token c.args.fields.now (c.in_err-check_record.ensures s) in
    passed c.from_residual-in_err-check_record.result e _ c.from_residual-in_err-check_record.ensures.1 (of_rest (Err e) _ _ none (of_first e _ _ told))

pub check_fields-returns : goal.check_fields-returns
check_fields-returns t c s =
    let none : fault_if c.args.due (WrongKind c.args.token) ≡ None = tells (Ok tt) (fault_if c.args.due (WrongKind c.args.token)) c.in_ok-refuse_if.ensures in
    let told = told_values (where_at s c.args.world.now) (Ok tt) c.args.token c.args.fields.now (c.in_ok-check_record.ensures s) in
    of_rest c.check_values.result _ _ none (of_rest c.check_values.result _ _ told (c.check_values.ensures s))
