use Rattle.std.proofs.Common.{sym, ◌∙◌}
use Rattle.trees.specs.Node.{tree_at}
use Rattle.checks.specs.decl_checks.Structure.{defining_body}
use Rattle.tr_inline.specs.inlining.branch_equations.Branches.{quantifiers}
use Rattle.tr_recursion.proofs.recursion_forms.Reading.{matched_here, no_branches, not_matched}
use Rattle.tr_recursion.proofs.recursion_forms.branches.matched_parameter.Goals as goal
use Rattle.tr_recursion.proofs.recursion_forms.branches.matched_parameter.Goals.{else-has_parameter-via-then-has_parameter+else-are_branches, else-has_parameter-via-else-has_parameter}

pub returns-then-are_branches-clause-is : goal.returns-then-are_branches-clause-is
returns-then-are_branches-clause-is c =
    let s = c.args.store.now in
    matched_here (quantifiers (tree_at s c.args.equation)) c.in-Bound.index (defining_body (tree_at s c.args.equation)) (tree_at s c.in-Case.asked) (tree_at s c.in-Bound.field-1) (tree_at s c.in-Case.arms) (sym c.defining_body-body.ensures.tree ∙ c.in-Case.ensures.tree) c.in-Bound.ensures.tree
    (sym c.has_parameter.ensures ∙ c.if-has_parameter.true) (sym c.are_branches.ensures ∙ c.if-are_branches.true)

pub returns-else-has_parameter-clause-is : goal.returns-else-has_parameter-clause-is
returns-else-has_parameter-clause-is c =
    let s = c.args.store.now in
    let e = tree_at s c.args.equation in
    let body = sym c.defining_body-body.ensures.tree ∙ c.in-Case.ensures.tree in
    elim c.else-has_parameter.branch [
      | else-has_parameter-via-then-has_parameter+else-are_branches w ↦ no_branches (quantifiers e) c.in-Bound.index (defining_body e) (tree_at s c.in-Case.asked) (tree_at s c.in-Bound.field-1) (tree_at s c.in-Case.arms) body c.in-Bound.ensures.tree
          (sym c.has_parameter.ensures ∙ w.if-has_parameter.true) (sym w.are_branches.ensures ∙ w.if-are_branches.false)
      | else-has_parameter-via-else-has_parameter w ↦ not_matched (quantifiers e) c.in-Bound.index (defining_body e) (tree_at s c.in-Case.asked) (tree_at s c.in-Bound.field-1) (tree_at s c.in-Case.arms) body c.in-Bound.ensures.tree (sym c.has_parameter.ensures ∙ w.if-has_parameter.false)
    ]
