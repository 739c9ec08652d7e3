use Rattle.std.proofs.Common.{◌≡◌, List, sym, ap, subst, ◌∙◌, arith}
use Rattle.trees.specs.Tree.{Tree, Two, HCase}
use Rattle.trees.specs.Node.{tree_at}
use Rattle.tasks.specs.Vocabulary.{of_task}
use Rattle.images.specs.typing_laws.HasTyping.{HasTyping}
use Rattle.tr_match.specs.match_forms.Forms.{match_rule}
use Rattle.tr_match.specs.match_forms.Held.{look_task}
use Rattle.tr_match.proofs.match_forms.Opening.{can_form, node_stays}
use Rattle.tr_match.proofs.match_forms.forms.match_node.Goals as goal

pub if_form-requires : goal.if_form-requires
if_form-requires g c =
    let s = g.G.Grow.trees c.args.g.now in
    let e : tree_at s c.args.e ≡ Two HCase (tree_at s c.in-Case.scrutinee) (tree_at s c.in-Case.branches) = rw c.store.ensures at c.in-Case.ensures.tree in
    let n = c.in-Case.ensures.below in
    can_form s c.args.look c.in-Case.scrutinee c.in-Case.branches c.requires.look c.requires.valid (omega (arith, n.0, c.requires.held)) (omega (arith, n.1, c.requires.held)) c.requires.typed.0
    (subst (HasTyping (of_task (look_task s c.args.look)) c.requires.typed.0) e c.requires.typed.1)

pub returns-in_ok-made-in-Case-clause-tree : goal.returns-in_ok-made-in-Case-clause-tree
returns-in_ok-made-in-Case-clause-tree g c =
    let s = g.G.Grow.trees c.args.g.now in
    let e : tree_at s c.args.e ≡ Two HCase (tree_at s c.in-Case.scrutinee) (tree_at s c.in-Case.branches) = rw c.store.ensures at c.in-Case.ensures.tree in
    c.in_ok-made-in-Case.ensures.tree ∙ sym (ap (match_rule (look_task s c.args.look)) e)

pub returns-in_default-clause-tree : goal.returns-in_default-clause-tree
returns-in_default-clause-tree g c =
    let s = g.G.Grow.trees c.args.g.now in
    node_stays (look_task s c.args.look) c.store.result.now c.node.result (tree_at s c.args.e) (ap (λ (z : List Tree). tree_at z c.args.e) (sym c.store.ensures) ∙ c.node.ensures.tree) c.in_default.not-Case
