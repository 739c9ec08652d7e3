use Rattle.surface.proofs.unparse.Common.{arith, ◌∙◌, common_steps, form_is, form_of_node-Var, form_of_node-Named, form_of_node-Group}
use Rattle.surface.proofs.unparse.parts.+type_writing.Goals as goal

pub push_type-returns-in-Var : goal.push_type-returns-in-Var
push_type-returns-in-Var t c = let is = form_is c.args.t.now _ c.in-Var.is ∙ form_of_node-Var _ _ in grind (arith, common_steps)

pub push_type-returns-in-Named : goal.push_type-returns-in-Named
push_type-returns-in-Named t c = let is = form_is c.args.t.now _ c.in-Named.is ∙ form_of_node-Named _ _ _ in grind (arith, common_steps)

pub push_type-returns-in-Group : goal.push_type-returns-in-Group
push_type-returns-in-Group t c = let is = form_is c.args.t.now _ c.in-Group.is ∙ form_of_node-Group _ _ in grind (arith, common_steps)
