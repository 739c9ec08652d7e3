use Rattle.std.proofs.Common.{map, refl}
use Rattle.surface.specs.Surface as code
use Rattle.surface.specs.Surface.{op_of}
use Rattle.name_resolution.specs.Abstract.{first_tree, operator_meaning, expression_of}
use Rattle.name_resolution.specs.variables.Entered.{seen_at}
use Rattle.name_resolution.proofs.Nodes.{triggers_at-Some, expression_at-Apply, expression_at-Int, expression_at-True, expression_at-False, expression_at-Group, expression_at-Cast, expression_at-Prefix, expression_at-Dot, expression_at-Fields, expression_at-Not, expression_at-Binary, expression_at-If, expression_at-Quant, expression_at-Match}
use Rattle.name_resolution.proofs.variables.Widened.{expressions_widened, operated_seen}
use Rattle.name_resolution.proofs.Operated.{bound_as, matched_as}
use Rattle.name_resolution.proofs.variables.variables.+entering.Goals as goal

pub enter_triggers-returns-in-Some : goal.enter_triggers-returns-in-Some
enter_triggers-returns-in-Some t c = rw (triggers_at-Some c.args.triggers.now c.in-Some.terms c.in-Some.is) (rw c.as_slice.ensures at c.enter_all.ensures)

pub enter_variables-returns-in-Apply : goal.enter_variables-returns-in-Apply
enter_variables-returns-in-Apply t c = let is = expression_at-Apply c.args.e.now c.in-Apply.field-0 c.in-Apply.arguments c.in-Apply.is in rw is (rw c.as_slice.ensures at c.enter_all.ensures)

pub enter_variables-returns-in-Int : goal.enter_variables-returns-in-Int
enter_variables-returns-in-Int t c = let is = expression_at-Int c.args.e.now c.in-Int.field-0 c.in-Int.is in rw is refl

pub enter_variables-returns-in-True : goal.enter_variables-returns-in-True
enter_variables-returns-in-True t c = let is = expression_at-True c.args.e.now c.in-True.is in rw is refl

pub enter_variables-returns-in-False : goal.enter_variables-returns-in-False
enter_variables-returns-in-False t c = let is = expression_at-False c.args.e.now c.in-False.is in rw is refl

pub enter_variables-returns-in_ok-enter_tuple-in-Group : goal.enter_variables-returns-in_ok-enter_tuple-in-Group
enter_variables-returns-in_ok-enter_tuple-in-Group t c =
    let is = expression_at-Group c.args.e.now c.in-Group.parts c.in-Group.is in
    let a = rw c.len.ensures at c.in_ok-enter_tuple-in-Group.ensures in
    rw is (rw (c.as_slice-in-Group.ensures, a, expressions_widened c.args.e.now.at.main c.in-Group.parts (seen_at c.args.seen.now)) at c.enter_all-in-Group.ensures)

pub enter_variables-returns-in_ok-enter_variables-in-Cast : goal.enter_variables-returns-in_ok-enter_variables-in-Cast
enter_variables-returns-in_ok-enter_variables-in-Cast t c =
    let is = expression_at-Cast c.args.e.now c.in-Cast.inner c.in-Cast.ty c.in-Cast.is in
    let a = rw c.get.ensures at c.in_ok-enter_variables-in-Cast.ensures in
    rw is (rw a at c.enter_form.ensures)

pub enter_variables-returns-in-Prefix : goal.enter_variables-returns-in-Prefix
enter_variables-returns-in-Prefix t c = let is = expression_at-Prefix c.args.e.now c.in-Prefix.field-0 c.in-Prefix.inner c.in-Prefix.is in rw is (rw c.get-in-Prefix.ensures at c.enter_variables-in-Prefix.ensures)

pub enter_variables-returns-in-Dot : goal.enter_variables-returns-in-Dot
enter_variables-returns-in-Dot t c = let is = expression_at-Dot c.args.e.now c.in-Dot.inner c.in-Dot.field-1 c.in-Dot.is in rw is (rw c.get-in-Dot.ensures at c.enter_variables-in-Dot.ensures)

pub enter_variables-returns-in-Not : goal.enter_variables-returns-in-Not
enter_variables-returns-in-Not t c = let is = expression_at-Not c.args.e.now c.in-Not.inner c.in-Not.is in rw is (rw c.get-in-Not.ensures at c.enter_variables-in-Not.ensures)

pub enter_variables-returns-in_ok-enter_variables-in-Binary : goal.enter_variables-returns-in_ok-enter_variables-in-Binary
enter_variables-returns-in_ok-enter_variables-in-Binary t c =
    let is = expression_at-Binary c.args.e.now c.in-Binary.left c.in-Binary.field-1 c.in-Binary.right c.in-Binary.is in
    let a = rw c.get-in-Binary.ensures at c.in_ok-enter_variables-in-Binary.ensures in
    let o = operated_seen c.args.e.now.at.main (expression_of c.in-Binary.left) (operator_meaning (op_of c.in-Binary.field-1).terminal (op_of c.in-Binary.field-1).text) (expression_of c.in-Binary.right) (seen_at c.args.seen.now) in
    rw (is, o) (rw (c.get-in-Binary-2.ensures, a) at c.enter_variables-in-Binary-2.ensures)

pub enter_variables-returns-in_ok-enter_variables-in-If-2 : goal.enter_variables-returns-in_ok-enter_variables-in-If-2
enter_variables-returns-in_ok-enter_variables-in-If-2 t c =
    let is = expression_at-If c.args.e.now c.in-If.test c.in-If.left c.in-If.right c.in-If.is in
    let a = rw c.get-in-If.ensures at c.in_ok-enter_variables-in-If.ensures in
    let b = rw c.get-in-If-2.ensures at c.in_ok-enter_variables-in-If-2.ensures in
    rw is (rw (c.get-in-If-3.ensures, b, a) at c.enter_variables-in-If-3.ensures)

pub enter_variables-returns-in_ok-enter_triggers-in-Quant : goal.enter_variables-returns-in_ok-enter_triggers-in-Quant
enter_variables-returns-in_ok-enter_triggers-in-Quant t c =
    let is = expression_at-Quant c.args.e.now c.in-Quant.field-0 c.in-Quant.binders c.in-Quant.triggers c.in-Quant.body c.in-Quant.is in
    let a = rw c.as_slice-in-Quant.ensures at c.in_ok-enter_binders-in-Quant.ensures in
    let b = rw a at c.in_ok-enter_triggers-in-Quant.ensures in
    rw is (rw (c.get-in-Quant.ensures, b) at c.enter_variables-in-Quant.ensures)

pub enter_variables-returns-in_ok-enter_variables-in-Some : goal.enter_variables-returns-in_ok-enter_variables-in-Some
enter_variables-returns-in_ok-enter_variables-in-Some t c =
    let q = rw (c.as_slice-in-Let.ensures, c.in-Some.is) at c.let_name.ensures in
    let is = bound_as c.args.e.now c.in-Let.patterns c.in-Let.value c.in-Let.body c.in-Let.is c.in-Some.field-0.now.text q in
    let a = rw c.get-in-Some.ensures at c.in_ok-enter_variables-in-Some.ensures in
    rw is (rw (c.get-in-Some-2.ensures, a) at c.enter_variables-in-Some-2.ensures)

pub enter_variables-returns-in_ok-enter_all-in-Match : goal.enter_variables-returns-in_ok-enter_all-in-Match
enter_variables-returns-in_ok-enter_all-in-Match t c =
    let is = expression_at-Match c.args.e.now c.in-Match.values c.in-Match.field-1 c.in-Match.branches c.in-Match.is in
    let a = rw c.len-in-Match.ensures at c.in_ok-enter_tuple-in-Match.ensures in
    let b = rw (c.as_slice-in-Match.ensures, a, expressions_widened (first_tree (code.trees (map code.tree_of c.in-Match.values))) c.in-Match.values (seen_at c.args.seen.now)) at c.in_ok-enter_all-in-Match.ensures in
    rw is (rw (c.as_slice-in-Match-2.ensures, b) at c.enter_branches.ensures)

pub enter_variables-returns-in_ok-enter_patterns-in-None : goal.enter_variables-returns-in_ok-enter_patterns-in-None
enter_variables-returns-in_ok-enter_patterns-in-None t c =
    let is = matched_as c.args.e.now c.in-Let.patterns c.in-Let.value c.in-Let.body c.in-Let.is (rw (c.as_slice-in-Let.ensures, c.in-None.is) at c.let_name.ensures) in
    let a = rw c.get-in-None.ensures at c.in_ok-enter_variables-in-None.ensures in
    let b = rw (c.as_slice-in-None.ensures, a) at c.in_ok-enter_patterns-in-None.ensures in
    rw is (rw (c.get-in-None-2.ensures, b) at c.enter_variables-in-None-2.ensures)

pub enter_variables-returns-in-Fields : goal.enter_variables-returns-in-Fields
enter_variables-returns-in-Fields t c = let is = expression_at-Fields c.args.e.now c.in-Fields.fields c.in-Fields.field-1 c.in-Fields.is in rw is (rw c.as_slice-in-Fields.ensures at c.enter_values.ensures)
