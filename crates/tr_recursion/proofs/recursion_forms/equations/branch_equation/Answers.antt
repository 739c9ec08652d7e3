use Rattle.std.proofs.Common.{List, sym, ap, subst, ◌∙◌}
use Rattle.trees.specs.declared.Sort.TheVariants.{Kind}
use Rattle.trees.specs.Tree.{Tree}
use Rattle.trees.specs.Node.{tree_at, trees_at}
use Rattle.trees.specs.Sorts.{sort_of}
use Rattle.trees.specs.binders.Visits.{held_stays, trees_stay}
use Rattle.tasks.specs.Equations.{for_all}
use Rattle.tr_inline.specs.inlining.branch_equations.Branches.{branch_types, branch_sides, HasSides}
use Rattle.tr_recursion.specs.recursion_forms.Read.{constructor_branch_at}
use Rattle.tr_recursion.proofs.recursion_forms.equations.branch_equation.Goals as goal

pub branch_sides-requires-clause-fit : goal.branch_sides-requires-clause-fit
branch_sides-requires-clause-fit c = subst (HasSides (sort_of (tree_at c.args.store.now c.args.branch.body))) (sym c.below_quantifiers-sides.ensures.tree) c.requires.fit

pub quantify-requires-clause-types : goal.quantify-requires-clause-types
quantify-requires-clause-types c =
    rw c.as_slice.ensures.value (held_stays Kind c.args.store.now c.branch_sides.new.store c.in_ok-types.types.items c.in_ok-formula.ensures.grows c.in_ok-types.ensures.held)

pub returns-clause-tree : goal.returns-clause-tree
returns-clause-tree c =
    let s = c.args.store.now in
    let s1 = c.branch_sides.new.store in
    let args = c.args.args.now in
    let b = constructor_branch_at s c.args.branch in
    (rw c.as_slice.ensures.value at c.in_ok-made.ensures.tree)
    ∙ ap (λ (z : List Tree). for_all z (tree_at s1 c.in_ok-formula.formula)) (trees_stay Kind s s1 c.in_ok-types.types.items c.in_ok-formula.ensures.grows c.in_ok-types.ensures.held ∙ c.in_ok-types.ensures.trees)
    ∙ ap (for_all (branch_types (trees_at s args) c.args.index b)) (c.in_ok-formula.ensures.tree ∙ ap (branch_sides (trees_at s args) c.args.index b) c.below_quantifiers-sides.ensures.tree)
