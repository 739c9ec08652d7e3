use Rattle.std.proofs.Common.{◌≡◌}
use Rattle.trees.specs.Node.{tree_at}
use Rattle.tasks.proofs.typed_trees.Variables.{alias_can, cell_at, cell_can}
use Rattle.tasks.proofs.typed_trees.open.+variables_have.Goals as goal

pub returns-then-variable_has-clause-can : goal.returns-then-variable_has-clause-can
returns-then-variable_has-clause-can t c k =
    let s = c.args.store.now in
    c.variables_have.ensures.can (alias_can c.args.depth c.saturating_add.result (tree_at s c.in-PatAlias.a) (tree_at s c.args.pattern) (tree_at s c.in-Some.ty) (tree_at s c.args.e) c.in-PatAlias.ensures.tree c.in-Some.ensures.1 c.saturating_add.ensures k)

pub returns-then-variables_have-clause-is : goal.returns-then-variables_have-clause-is
returns-then-variables_have-clause-is t c v =
    let s = c.args.store.now in
    cell_at c.args.depth c.pattern_variables.result c.saturating_add-following.result (tree_at s c.in-Cell.a) (tree_at s c.in-Cell.b) (tree_at s c.args.pattern) (tree_at s c.args.e) c.in-Cell.ensures.tree c.in-Cell.ensures.sorted c.pattern_variables.ensures c.saturating_add-following.ensures
    (c.variables_have-in-Cell.ensures.is c.if-variables_have.true) (c.variables_have-then-variables_have.ensures.is v)

pub returns-then-variables_have-clause-can : goal.returns-then-variables_have-clause-can
returns-then-variables_have-clause-can t c k =
    let s = c.args.store.now in
    c.variables_have-then-variables_have.ensures.can (cell_can c.args.depth c.pattern_variables.result c.saturating_add-following.result (tree_at s c.in-Cell.a) (tree_at s c.in-Cell.b) (tree_at s c.args.pattern) (tree_at s c.args.e) c.in-Cell.ensures.tree c.in-Cell.ensures.sorted c.pattern_variables.ensures c.saturating_add-following.ensures k).1

pub returns-else-variables_have-clause-can : goal.returns-else-variables_have-clause-can
returns-else-variables_have-clause-can t c k =
    let s = c.args.store.now in
    c.variables_have-in-Cell.ensures.can (cell_can c.args.depth c.pattern_variables.result c.saturating_add-following.result (tree_at s c.in-Cell.a) (tree_at s c.in-Cell.b) (tree_at s c.args.pattern) (tree_at s c.args.e) c.in-Cell.ensures.tree c.in-Cell.ensures.sorted c.pattern_variables.ensures c.saturating_add-following.ensures k).0
