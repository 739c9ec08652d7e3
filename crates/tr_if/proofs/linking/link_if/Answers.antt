use Rattle.std.proofs.Common.{◌≡◌, sym, ap, subst, ◌∙◌}
use Rattle.tasks.specs.trees.declared.Sort.TheVariants.{Formula}
use Rattle.tasks.specs.trees.Tree.{Tree, Three, HIf, head_of}
use Rattle.tasks.specs.trees.Node.{tree_at, trees_at}
use Rattle.tasks.specs.trees.Sorts.{sort_of}
use Rattle.tasks.specs.Vocabulary.{of_task}
use Rattle.evidence.specs.Laws.{Extends_trans}
use Rattle.congruence.proofs.Later.{tree_later}
use Rattle.congruence.proofs.CaseParts.{parts_later}
use Rattle.tr_if.specs.conditionals.Conditionals.{implications, if_rule}
use Rattle.tr_if.specs.conditionals.Held.{AreIfParts}
use Rattle.walking.specs.Places.{types_for, IsLinkOf}
use Rattle.walking.proofs.Places.{place_sort}
use Rattle.tr_if.proofs.Rules.{formula_rule}
use Rattle.tr_if.proofs.Links.{own_parts, parts_linked_later}
use Rattle.tr_if.proofs.linking.link_if.Goals as goal

pub if_parts-inner-requires-clause-head : goal.if_parts-inner-requires-clause-head
if_parts-inner-requires-clause-head c = subst (λ s. head_of (tree_at s c.args.e) ≡ HIf) (sym c.store.ensures) (ap head_of c.requires.node.1.1.1)

pub link_cases-requires : goal.link_cases-requires
link_cases-requires c =
    let d = c.args.draft.now in
    let d1 = c.if_values.new.draft in
    let x = c.in_ok-values.ensures.grows in
    let r = c.requires in
    let e = c.args.e in
    let left = c.args.left in
    let env = c.args.env.now in
    let n = c.args.fresh in
    let k = c.if_parts-inner.result in
    let ip = subst (λ s. AreIfParts s (tree_at s e) k) c.store.ensures c.if_parts-inner.ensures in
    let at = c.parts_at-at.result in
    let q = c.parts_at-at.ensures in
    let i : tree_at d.trees left ≡ Three HIf (tree_at d.trees at.condition) (tree_at d.trees at.then_part) (tree_at d.trees at.else_part) = ap (tree_at d.trees) (sym q.whole) ∙ q.is in
    let s : sort_of (tree_at d.trees at.whole) ≡ Formula = ap (λ z. sort_of (tree_at d.trees z)) q.whole ∙ place_sort d env e left n r.place ∙ r.formula in
    record {
      left = parts_later d d1 x at q.parts;
      formula = ap sort_of (tree_later d d1 x at.whole q.parts.whole.held) ∙ s;
      values = c.in_ok-values.ensures.values;
      parts = parts_linked_later d env at _ n q.parts s (own_parts d env e left n r.place k.condition k.then_part k.else_part ip.condition ip.then_part ip.else_part ip.is at i q.parts) d1 x;
    }

pub returns-in_err-made-clause-grows : goal.returns-in_err-made-clause-grows
returns-in_err-made-clause-grows c = Extends_trans _ _ _ c.in_ok-values.ensures.grows c.in_err-made.ensures.grows

pub returns-clause-grows : goal.returns-clause-grows
returns-clause-grows c = Extends_trans _ _ _ c.in_ok-values.ensures.grows c.in_ok-made.ensures.grows

pub returns-clause-link : goal.returns-clause-link
returns-clause-link c =
    let d = c.args.draft.now in
    let d1 = c.if_values.new.draft in
    let d2 = c.link_cases.new.draft in
    let y = c.in_ok-values.ensures.grows in
    let env = c.args.env.now in
    let k = c.if_parts-inner.result in
    let ip = subst (λ s. AreIfParts s (tree_at s c.args.e) k) c.store.ensures c.if_parts-inner.ensures in
    let m = c.in_ok-made in
    let x = tree_at d.trees k.condition in
    let a = tree_at d.trees k.then_part in
    let b = tree_at d.trees k.else_part in
    let w : implications (tree_at d1.trees k.condition) (tree_at d1.trees k.then_part) (tree_at d1.trees k.else_part) ≡ implications x a b =
    cc (tree_later d d1 y k.condition ip.condition, tree_later d d1 y k.then_part ip.then_part, tree_later d d1 y k.else_part ip.else_part) in
    let u = w ∙ formula_rule (of_task d.task) (types_for (trees_at d.trees env)) (tree_at d.trees c.args.e) x a b ip.is c.requires.place.at.shape.typed c.requires.formula in
    subst (λ z. IsLinkOf d2 env z c.args.fresh (if_rule (tree_at d.trees c.args.e)) m.made) c.parts_at-at.ensures.whole (subst (λ (z : Tree). IsLinkOf d2 env c.parts_at-at.result.whole c.args.fresh z m.made) u m.ensures.link)
