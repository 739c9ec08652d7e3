use Rattle.std.proofs.Common.{get_or, ap, ◌∙◌}
use Rattle.surface.proofs.TreeLemmas.{pattern_is, pattern_of_node-Wild, pattern_of_node-Var, pattern_of_node-Con, pattern_of_node-Group, pattern_of_node-Alias, pattern_of_node-Fields}
use Rattle.surface.specs.declared.patterns.PatNode.TheVariants as pv
use Rattle.name_resolution.proofs.Nodes.{alone, let_none, let_alone}
use Rattle.name_resolution.proofs.names.let_name.Goals as goal

pub returns-then-patterns-ne1 : goal.returns-then-patterns-ne1
returns-then-patterns-ne1 c = let_none c.args.patterns.now c.if-patterns-ne1.true

pub returns-in-Var : goal.returns-in-Var
returns-in-Var c = let_alone c.args.patterns.now c.index-patterns-0.result c.if-patterns-ne1.false ∙ ap alone (pattern_is (get_or c.args.patterns.now 0 c.index-patterns-0.result) (pv.Var c.in-Var.name) c.in-Var.is ∙ pattern_of_node-Var c.in-Var.name (get_or c.args.patterns.now 0 c.index-patterns-0.result).at)

pub returns-in-Wild : goal.returns-in-Wild
returns-in-Wild c = let_alone c.args.patterns.now c.index-patterns-0.result c.if-patterns-ne1.false ∙ ap alone (pattern_is (get_or c.args.patterns.now 0 c.index-patterns-0.result) pv.Wild c.in-Wild.is ∙ pattern_of_node-Wild (get_or c.args.patterns.now 0 c.index-patterns-0.result).at)

pub returns-in-Con : goal.returns-in-Con
returns-in-Con c = let_alone c.args.patterns.now c.index-patterns-0.result c.if-patterns-ne1.false ∙ ap alone (pattern_is (get_or c.args.patterns.now 0 c.index-patterns-0.result) (pv.Con c.in-Con.field-0 c.in-Con.field-1) c.in-Con.is ∙ pattern_of_node-Con c.in-Con.field-0 c.in-Con.field-1 (get_or c.args.patterns.now 0 c.index-patterns-0.result).at)

pub returns-in-Group : goal.returns-in-Group
returns-in-Group c = let_alone c.args.patterns.now c.index-patterns-0.result c.if-patterns-ne1.false ∙ ap alone (pattern_is (get_or c.args.patterns.now 0 c.index-patterns-0.result) (pv.Group c.in-Group.field-0) c.in-Group.is ∙ pattern_of_node-Group c.in-Group.field-0 (get_or c.args.patterns.now 0 c.index-patterns-0.result).at)

pub returns-in-Alias : goal.returns-in-Alias
returns-in-Alias c = let_alone c.args.patterns.now c.index-patterns-0.result c.if-patterns-ne1.false ∙ ap alone (pattern_is (get_or c.args.patterns.now 0 c.index-patterns-0.result) (pv.Alias c.in-Alias.field-0 c.in-Alias.field-1) c.in-Alias.is ∙ pattern_of_node-Alias c.in-Alias.field-0 c.in-Alias.field-1 (get_or c.args.patterns.now 0 c.index-patterns-0.result).at)

pub returns-in-Fields : goal.returns-in-Fields
returns-in-Fields c = let_alone c.args.patterns.now c.index-patterns-0.result c.if-patterns-ne1.false ∙ ap alone (pattern_is (get_or c.args.patterns.now 0 c.index-patterns-0.result) (pv.Fields c.in-Fields.field-0 c.in-Fields.field-1) c.in-Fields.is ∙ pattern_of_node-Fields c.in-Fields.field-0 c.in-Fields.field-1 (get_or c.args.patterns.now 0 c.index-patterns-0.result).at)
