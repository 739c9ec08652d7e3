use Rattle.std.proofs.Common.{◌≡◌, ◌++◌, subst, sym, ap, ◌∙◌}
use Rattle.trees.specs.Tree.{Tree, Three, HFun}
use Rattle.trees.specs.Node.{tree_at, trees_at}
use Rattle.trees.specs.Sorts.{Fits}
use Rattle.tasks.specs.Typing.{members}
use Rattle.step_reading.proofs.quick_steps.NodeForms.{no_function}
use Rattle.step_reading.proofs.quick_steps.asking.arguments.Goals as goal

pub push_terms-requires-clause-terms : goal.push_terms-requires-clause-terms
push_terms-requires-clause-terms c =
    let s = c.args.store.now in
    let n = c.in-Fun in
    let f : Fits (Three (HFun n.field-0) (tree_at s n.field-1) (tree_at s n.args) (tree_at s n.field-3)) = subst Fits n.ensures.tree n.ensures.fits in
    f.1

pub returns-in_ok-push_terms-in-Fun-clause-trees : goal.returns-in_ok-push_terms-in-Fun-clause-trees
returns-in_ok-push_terms-in-Fun-clause-trees c f types args ty q =
    let s = c.args.store.now in
    let a : tree_at s c.in-Fun.args ≡ args = cc (c.in-Fun.ensures.tree, q) in
    c.in_ok-push_terms-in-Fun.ensures.trees ∙ ap (λ ids. trees_at s ids ++ members (tree_at s c.in-Fun.args)) c.new-out.ensures.items ∙ ap members a

pub returns-in_default-clause-trees : goal.returns-in_default-clause-trees
returns-in_default-clause-trees c f types args ty q = absurd (no_function c.args.store.now c.node.result f types args ty c.in_default.not-Fun (sym c.node.ensures.tree ∙ q))
