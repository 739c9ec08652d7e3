use Rattle.std.proofs.Common.{◌≡◌, refl, subst}
use Rattle.tasks.specs.trees.Tree.{Tree, Three, HIf}
use Rattle.tasks.specs.trees.Node.{tree_at}
use Rattle.walking.specs.Places.{IsLinkOf}
use Rattle.tr_if.proofs.Rules.{atom_rule, predicate_atom, equation_atom, other_stays}
use Rattle.tr_if.proofs.rule.IfRuleRewrite.link.Goals as goal

pub link_atom-requires : goal.link_atom-requires
link_atom-requires c = record { place = c.requires.place; atom = predicate_atom c.args.draft.now.trees c.store.result.now c.store.ensures c.args.e _ _ _ c.in-Pred.ensures.tree }

pub link_atom-requires-in-Eq : goal.link_atom-requires-in-Eq
link_atom-requires-in-Eq c = record { place = c.requires.place; atom = equation_atom c.args.draft.now.trees c.store.result.now c.store.ensures c.args.e _ _ c.in-Eq.ensures.tree }

pub link_conditional-requires-clause-node : goal.link_conditional-requires-clause-node
link_conditional-requires-clause-node c =
    let s = c.args.draft.now.trees in
    let q = subst (λ t. tree_at t c.args.e ≡ Three HIf (tree_at t c.in-If.field-0) (tree_at t c.in-If.field-1) (tree_at t c.in-If.field-2)) c.store.ensures c.in-If.ensures.tree in
    (_, (_, (_, q)))

pub returns-in_ok-made-in-Pred-clause-link : goal.returns-in_ok-made-in-Pred-clause-link
returns-in_ok-made-in-Pred-clause-link c =
    let s = c.args.draft.now.trees in
    subst (λ (z : Tree). IsLinkOf c.link_atom.new.draft c.args.env.now c.args.left c.args.fresh z c.in_ok-made-in-Pred.made)
    (atom_rule (tree_at s c.args.e) (predicate_atom s c.store.result.now c.store.ensures c.args.e _ _ _ c.in-Pred.ensures.tree)) c.in_ok-made-in-Pred.ensures.link

pub returns-in_ok-made-in-Eq-clause-link : goal.returns-in_ok-made-in-Eq-clause-link
returns-in_ok-made-in-Eq-clause-link c =
    let s = c.args.draft.now.trees in
    subst (λ (z : Tree). IsLinkOf c.link_atom-in-Eq.new.draft c.args.env.now c.args.left c.args.fresh z c.in_ok-made-in-Eq.made)
    (atom_rule (tree_at s c.args.e) (equation_atom s c.store.result.now c.store.ensures c.args.e _ _ c.in-Eq.ensures.tree)) c.in_ok-made-in-Eq.ensures.link

pub returns-in_default-clause-link : goal.returns-in_default-clause-link
returns-in_default-clause-link c =
    let d = c.args.draft.now in
    record {
      is = other_stays d.trees c.store.result.now c.store.ensures c.args.e c.node.result c.node.ensures.tree c.in_default.not-Pred c.in_default.not-Eq c.in_default.not-If;
      place = c.requires.place;
      sort = refl;
      type = refl;
      shows = refl;
    }
