use Rattle.std.proofs.Common.{◌≡◌, ℕ, List, map, length, ap, ◌∙◌}
use Rattle.trees.specs.Tree.{Tree}
use Rattle.trees.specs.Node.{tree_at, trees_at}
use Rattle.tasks.specs.Typing.{members}
use Rattle.tr_inline.specs.inlining.branch_equations.Branches.{field_type, parameters_after, variables_above}
use Rattle.tr_recursion.proofs.recursion_forms.Making.{after_count}
use Rattle.tr_recursion.proofs.recursion_forms.equations.field_variables.Goals as goal

pub returns-clause-trees : goal.returns-clause-trees
returns-clause-trees c =
    let s = c.args.store.now in
    let args = c.args.args.now in
    let own = trees_at s c.push_field_types.new.types.items in
    let n : length c.after.result.now ≡ length (parameters_after (trees_at s args) c.args.index) = ap length c.after.ensures ∙ after_count s args c.args.index in
    (rw (c.as_slice.ensures.value, c.new-made.ensures.items) at c.in_ok-push_variables.ensures.trees) ∙ ap (λ (k : ℕ). variables_above k own) n ∙ ap (variables_above (length (parameters_after (trees_at s args) c.args.index))) (rw c.new-types.ensures.items at c.in_ok-push_field_types.ensures.trees)
