use Rattle.std.proofs.Common.{◌≡◌, List, refl, sym, ap, ◌∙◌}
use Rattle.tasks.specs.trees.Tree.{Tree, Two, HCase}
use Rattle.tasks.specs.trees.Node.{tree_at}
use Rattle.tr_match.proofs.match_forms.Opening.{node_stays}
use Rattle.tr_match.proofs.matches.MatchesRewrite.link.Goals as goal

pub link_match-requires-clause-node : goal.link_match-requires-clause-node
link_match-requires-clause-node c =
    let s = c.args.draft.now.trees in
    let e : tree_at s c.args.e ≡ Two HCase (tree_at s c.in-Case.field-0) (tree_at s c.in-Case.field-1) = rw c.store.ensures at c.in-Case.ensures.tree in
    (_, (_, e))

pub returns-in_default-clause-link : goal.returns-in_default-clause-link
returns-in_default-clause-link c =
    let d = c.args.draft.now in
    record {
      is = node_stays d.task c.store.result.now c.node.result (tree_at d.trees c.args.e) (ap (λ (z : List Tree). tree_at z c.args.e) (sym c.store.ensures) ∙ c.node.ensures.tree) c.in_default.not-Case;
      place = c.requires.place;
      sort = refl;
      type = refl;
      shows = refl;
    }
