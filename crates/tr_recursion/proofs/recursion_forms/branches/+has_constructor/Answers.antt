use Rattle.std.proofs.Common.{◌∙◌}
use Rattle.trees.specs.Node.{tree_at}
use Rattle.trees.specs.laws.Indices.{eqb_true}
use Rattle.tr_recursion.specs.recursion_forms.Read.{constructor_branch_at}
use Rattle.tr_recursion.proofs.recursion_forms.Reading.{any_first, any_other}
use Rattle.tr_recursion.proofs.recursion_forms.branches.+has_constructor.Goals as goal

pub returns-then-branch-symbol : goal.returns-then-branch-symbol
returns-then-branch-symbol t c = λ bs w.
    let s = c.args.store.now in
    eqb_true c.in-Some.branch.symbol c.args.symbol c.if-branch-symbol.true
    ∙ any_first c.args.symbol (tree_at s c.args.arms) (tree_at s c.in-Cell.first) (tree_at s c.in-Cell.rest) (constructor_branch_at s c.in-Some.branch) c.in-Cell.ensures.tree c.in-Some.ensures.is c.if-branch-symbol.true bs w

pub returns-else-branch-symbol : goal.returns-else-branch-symbol
returns-else-branch-symbol t c =
    let s = c.args.store.now in
    any_other c.args.symbol (tree_at s c.args.arms) (tree_at s c.in-Cell.first) (tree_at s c.in-Cell.rest) (constructor_branch_at s c.in-Some.branch) c.has_constructor.result c.in-Cell.ensures.tree c.in-Some.ensures.is c.if-branch-symbol.false c.has_constructor.ensures
