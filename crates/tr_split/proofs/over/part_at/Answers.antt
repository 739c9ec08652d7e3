use Rattle.std.proofs.Common.{ap, ◌∙◌}
use Rattle.std.proofs.lemmas.Result.{IfOk-weaker}
use Rattle.tasks.specs.trees.Tree.{Tree}
use Rattle.tasks.specs.trees.Node.{tree_at}
use Rattle.tasks.specs.trees.Binding.{inst}
use Rattle.tasks.specs.Task.{neg}
use Rattle.evidence.specs.Laws.{AddsTrees_trans}
use Rattle.tr_split.proofs.Inner.{body_formula, body_closed, binding_in}
use Rattle.tr_split.proofs.over.part_at.Goals as goal

pub under_binder-part-requires-clause-binding : goal.under_binder-part-requires-clause-binding
under_binder-part-requires-clause-binding c = binding_in c.args.draft.now (tree_at c.args.draft.now.trees c.args.whole) c.args.term c.requires.term

pub instance-requires-clause-by_held : goal.instance-requires-clause-by_held
instance-requires-clause-by_held c =
    let u = c.under_binder-part.ensures in
    (body_closed c.args.draft.now c.args.whole c.under_binder-part.result c.args.term c.requires.whole u.universal u.valued c.requires.term).0

pub instance-requires-clause-closed : goal.instance-requires-clause-closed
instance-requires-clause-closed c =
    let u = c.under_binder-part.ensures in
    (body_closed c.args.draft.now c.args.whole c.under_binder-part.result c.args.term c.requires.whole u.universal u.valued c.requires.term).1

pub negation-requires : goal.negation-requires
negation-requires c =
    let u = c.under_binder-part.ensures in
    let o = c.in_ok-inner.ensures in
    body_formula c.args.draft.now c.args.whole c.under_binder-part.result c.args.term c.requires.whole u.universal u.valued c.requires.term c.instance.new.g c.in_ok-inner.inner o.grows.task o.held o.keeps

pub returns-clause-universal : goal.returns-clause-universal
returns-clause-universal c =
    let d = c.args.draft.now in
    let u = c.under_binder-part.ensures in
    IfOk-weaker c.negation.result _ _ (λ id t a b e. t ∙ ap neg (c.in_ok-inner.ensures.tree ∙ ap (λ (z : Tree). inst z (tree_at d.trees c.args.term)) (u.universal a b e))) c.negation.ensures.tree

pub returns-clause-valued : goal.returns-clause-valued
returns-clause-valued c =
    let d = c.args.draft.now in
    let u = c.under_binder-part.ensures in
    IfOk-weaker c.negation.result _ _ (λ id t a b e. t ∙ ap neg (c.in_ok-inner.ensures.tree ∙ ap (λ (z : Tree). inst z (tree_at d.trees c.args.term)) (u.valued a b e))) c.negation.ensures.tree

pub returns-clause-grows : goal.returns-clause-grows
returns-clause-grows c = AddsTrees_trans _ _ _ c.in_ok-inner.ensures.grows c.negation.ensures.grows
