use Rattle.surface.proofs.unparse.Common.{arith, ◌∙◌, common_steps, arm_of-fields, terms_of-fields, tree_is, tree_of_node-Apply, tree_of_node-Int, tree_of_node-True, tree_of_node-False, tree_of_node-Group, tree_of_node-Cast, tree_of_node-Match, tree_of_node-Dot, tree_of_node-Fields, tree_part_of-fields, tree_of_node-Prefix, tree_of_node-Not, tree_of_node-Binary, tree_of_node-If, tree_of_node-Let, tree_of_node-Quant}
use Rattle.surface.proofs.unparse.expressions.+writing.Goals as goal

pub push_arm-returns : goal.push_arm-returns
push_arm-returns t c = let is = arm_of-fields c.args.arm.now in grind (arith, common_steps)

pub push_expr-returns-in-Apply : goal.push_expr-returns-in-Apply
push_expr-returns-in-Apply t c = let is = tree_is c.args.e.now _ c.in-Apply.is ∙ tree_of_node-Apply _ _ _ in grind (arith, common_steps)

pub push_expr-returns-in-Int : goal.push_expr-returns-in-Int
push_expr-returns-in-Int t c = let is = tree_is c.args.e.now _ c.in-Int.is ∙ tree_of_node-Int _ _ in grind (arith, common_steps)

pub push_expr-returns-in-True : goal.push_expr-returns-in-True
push_expr-returns-in-True t c = let is = tree_is c.args.e.now _ c.in-True.is ∙ tree_of_node-True _ in grind (arith, common_steps)

pub push_expr-returns-in-False : goal.push_expr-returns-in-False
push_expr-returns-in-False t c = let is = tree_is c.args.e.now _ c.in-False.is ∙ tree_of_node-False _ in grind (arith, common_steps)

pub push_expr-returns-in-Group : goal.push_expr-returns-in-Group
push_expr-returns-in-Group t c = let is = tree_is c.args.e.now _ c.in-Group.is ∙ tree_of_node-Group _ _ in grind (arith, common_steps)

pub push_expr-returns-in-Cast : goal.push_expr-returns-in-Cast
push_expr-returns-in-Cast t c = let is = tree_is c.args.e.now _ c.in-Cast.is ∙ tree_of_node-Cast _ _ _ in grind (arith, common_steps)

pub push_expr-returns-in-Match : goal.push_expr-returns-in-Match
push_expr-returns-in-Match t c = let is = tree_is c.args.e.now _ c.in-Match.is ∙ tree_of_node-Match _ _ _ _ in grind (arith, common_steps)

pub push_expr-returns-in-Dot : goal.push_expr-returns-in-Dot
push_expr-returns-in-Dot t c = let is = tree_is c.args.e.now _ c.in-Dot.is ∙ tree_of_node-Dot _ _ _ in grind (arith, common_steps)

pub push_expr-returns-in-Fields : goal.push_expr-returns-in-Fields
push_expr-returns-in-Fields t c = let is = tree_is c.args.e.now _ c.in-Fields.is ∙ tree_of_node-Fields _ _ _ in grind (arith, common_steps)

pub push_field_value-returns : goal.push_field_value-returns
push_field_value-returns t c = let is = tree_part_of-fields c.args.field.now in grind (arith, common_steps)

pub push_expr-returns-in-Prefix : goal.push_expr-returns-in-Prefix
push_expr-returns-in-Prefix t c = let is = tree_is c.args.e.now _ c.in-Prefix.is ∙ tree_of_node-Prefix _ _ _ in grind (arith, common_steps)

pub push_expr-returns-in-Not : goal.push_expr-returns-in-Not
push_expr-returns-in-Not t c = let is = tree_is c.args.e.now _ c.in-Not.is ∙ tree_of_node-Not _ _ in grind (arith, common_steps)

pub push_expr-returns-in-Binary : goal.push_expr-returns-in-Binary
push_expr-returns-in-Binary t c = let is = tree_is c.args.e.now _ c.in-Binary.is ∙ tree_of_node-Binary _ _ _ _ in grind (arith, common_steps)

pub push_expr-returns-in-If : goal.push_expr-returns-in-If
push_expr-returns-in-If t c = let is = tree_is c.args.e.now _ c.in-If.is ∙ tree_of_node-If _ _ _ _ in grind (arith, common_steps)

pub push_expr-returns-in-Let : goal.push_expr-returns-in-Let
push_expr-returns-in-Let t c = let is = tree_is c.args.e.now _ c.in-Let.is ∙ tree_of_node-Let _ _ _ _ in grind (arith, common_steps)

pub push_expr-returns-in-Quant : goal.push_expr-returns-in-Quant
push_expr-returns-in-Quant t c = let is = tree_is c.args.e.now _ c.in-Quant.is ∙ tree_of_node-Quant _ _ _ _ _ in grind (arith, common_steps)

pub push_triggers-returns-in-Some : goal.push_triggers-returns-in-Some
push_triggers-returns-in-Some t c = let is = terms_of-fields c.in-Some.t in grind (arith, common_steps)
