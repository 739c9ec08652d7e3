use Rattle.std.proofs.Common.{List, Option, true, false, sym, ap, ◌∙◌}
use Rattle.trees.specs.Node.{tree_at}
use Rattle.tr_inline.specs.inlining.branch_equations.Branches.{ConstructorBranch, constructor_branches}
use Rattle.tr_recursion.specs.recursion_forms.Read.{constructor_branch_at, branches_or_none}
use Rattle.tr_recursion.proofs.recursion_forms.Reading.{Names, different_step}
use Rattle.tr_recursion.proofs.recursion_forms.branches.+are_branches.Goals as goal

pub returns-then-are_branches : goal.returns-then-are_branches
returns-then-are_branches t c =
    let s = c.args.store.now in
    different_step (tree_at s c.args.arms) (tree_at s c.in-Cell.first) (tree_at s c.in-Cell.rest) (constructor_branch_at s c.in-Some.branch) true c.has_constructor.result c.in-Cell.ensures.tree c.in-Some.ensures.is (sym c.if-are_branches.true ∙ c.are_branches.ensures)
    c.has_constructor.ensures

pub returns-else-are_branches : goal.returns-else-are_branches
returns-else-are_branches t c =
    let s = c.args.store.now in
    let b = constructor_branch_at s c.in-Some.branch in
    let rest = tree_at s c.in-Cell.rest in
    c.if-are_branches.false
    ∙ different_step (tree_at s c.args.arms) (tree_at s c.in-Cell.first) rest b false (Names b.symbol (branches_or_none (constructor_branches rest))) c.in-Cell.ensures.tree c.in-Some.ensures.is (sym c.if-are_branches.false ∙ c.are_branches.ensures)
    (λ cs w. ap (λ (z : Option (List ConstructorBranch)). Names b.symbol (branches_or_none z)) w)
