use Rattle.surface.proofs.unparse.Common.{arith, ◌∙◌, common_steps, pattern_is, pattern_of_node-Wild, pattern_of_node-Var, pattern_of_node-Con, pattern_of_node-Group, pattern_of_node-Alias, pattern_of_node-Fields, form_part_of-fields}
use Rattle.surface.proofs.unparse.parts.+pattern_writing.Goals as goal

pub push_pattern-returns-in-Wild : goal.push_pattern-returns-in-Wild
push_pattern-returns-in-Wild t c = let is = pattern_is c.args.p.now _ c.in-Wild.is ∙ pattern_of_node-Wild _ in grind (arith, common_steps)

pub push_pattern-returns-in-Var : goal.push_pattern-returns-in-Var
push_pattern-returns-in-Var t c = let is = pattern_is c.args.p.now _ c.in-Var.is ∙ pattern_of_node-Var _ _ in grind (arith, common_steps)

pub push_pattern-returns-in-Con : goal.push_pattern-returns-in-Con
push_pattern-returns-in-Con t c = let is = pattern_is c.args.p.now _ c.in-Con.is ∙ pattern_of_node-Con _ _ _ in grind (arith, common_steps)

pub push_pattern-returns-in-Group : goal.push_pattern-returns-in-Group
push_pattern-returns-in-Group t c = let is = pattern_is c.args.p.now _ c.in-Group.is ∙ pattern_of_node-Group _ _ in grind (arith, common_steps)

pub push_pattern-returns-in-Alias : goal.push_pattern-returns-in-Alias
push_pattern-returns-in-Alias t c = let is = pattern_is c.args.p.now _ c.in-Alias.is ∙ pattern_of_node-Alias _ _ _ in grind (arith, common_steps)

pub push_pattern-returns-in-Fields : goal.push_pattern-returns-in-Fields
push_pattern-returns-in-Fields t c = let is = pattern_is c.args.p.now _ c.in-Fields.is ∙ pattern_of_node-Fields _ _ _ in grind (arith, common_steps)

pub push_field_pattern-returns : goal.push_field_pattern-returns
push_field_pattern-returns t c = let is = form_part_of-fields c.args.field.now in grind (arith, common_steps)
