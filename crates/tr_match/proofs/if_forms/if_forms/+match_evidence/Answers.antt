use Rattle.std.proofs.Common.{ap, refl, sym, subst, ◌∙◌, arith}
use Rattle.tasks.specs.trees.declared.TermId.{TermId}
use Rattle.tasks.specs.trees.Tree.{Tree}
use Rattle.tasks.specs.trees.Node.{tree_at, Holds}
use Rattle.evidence.specs.Laws.{Extends_trans, AddsTrees_extends}
use Rattle.congruence.specs.declared.conditionals.Conditional.{Conditional}
use Rattle.congruence.specs.Alike.{ArePair, Shows}
use Rattle.congruence.proofs.Later.{held_later, tree_later, pair_later}
use Rattle.congruence.proofs.CaseParts.{parts_later, if_later}
use Rattle.tr_match.proofs.if_forms.IfForms.{has_others, opened, branches_list, last_branch, has_if, case_fits, right_parts, rest_else, rest_form, left_parts, left_match}
use Rattle.tr_match.proofs.if_forms.if_forms.+match_evidence.Goals as goal

pub others_of-others-requires-clause-others : goal.others_of-others-requires-clause-others
others_of-others-requires-clause-others t c = has_others _ _ _ c.requires.pair.left.ground c.requires.is

pub cells_of-requires-clause-sort : goal.cells_of-requires-clause-sort
cells_of-requires-clause-sort t c =
    let d = c.args.draft.now in
    let W = tree_at d.trees c.args.whole in
    let F = tree_at d.trees c.args.form in
    let S = tree_at d.trees c.others_of-others.result.scrutinee in
    let R = tree_at d.trees c.others_of-others.result.branches in
    let g = c.requires.pair.left.ground in
    let e = c.others_of-others.ensures.tree in
    branches_list d.task W F g c.requires.is S R (opened d.task W F g c.requires.is S e.0 R e.1)

pub alike_branch-requires-clause-is : goal.alike_branch-requires-clause-is
alike_branch-requires-clause-is t c =
    let d = c.args.draft.now in
    let W = tree_at d.trees c.args.whole in
    let F = tree_at d.trees c.args.form in
    let S = tree_at d.trees c.others_of-others.result.scrutinee in
    let R = tree_at d.trees c.others_of-others.result.branches in
    let g = c.requires.pair.left.ground in
    let e = c.others_of-others.ensures.tree in
    last_branch d.task W F g c.requires.is S R (opened d.task W F g c.requires.is S e.0 R e.1) (c.in-None.ensures.none refl)

pub if_by_parts-right-requires-clause-is : goal.if_by_parts-right-requires-clause-is
if_by_parts-right-requires-clause-is t c =
    let d = c.args.draft.now in
    let W = tree_at d.trees c.args.whole in
    let F = tree_at d.trees c.args.form in
    let S = tree_at d.trees c.others_of-others.result.scrutinee in
    let R = tree_at d.trees c.others_of-others.result.branches in
    let g = c.requires.pair.left.ground in
    let e = c.others_of-others.ensures.tree in
    has_if d.task W F g c.requires.is S R (opened d.task W F g c.requires.is S e.0 R e.1) _ _ c.in-Some.ensures.some

pub add-requires-clause-fits : goal.add-requires-clause-fits
add-requires-clause-fits t c =
    let d = c.args.draft.now in
    let W = tree_at d.trees c.args.whole in
    let F = tree_at d.trees c.args.form in
    let S = tree_at d.trees c.others_of-others.result.scrutinee in
    let R = tree_at d.trees c.others_of-others.result.branches in
    let g = c.requires.pair.left.ground in
    let e = c.others_of-others.ensures.tree in
    case_fits d.task W F g c.requires.is S R (opened d.task W F g c.requires.is S e.0 R e.1) _ _ c.in-Some.ensures.some

pub match_evidence-requires : goal.match_evidence-requires
match_evidence-requires t c =
    let d = c.args.draft.now in
    let d1 = c.add.new.self in
    let u = AddsTrees_extends d d1 c.in_ok-rest-in-Some.ensures.grows in
    let o = c.others_of-others.result in
    let e = c.others_of-others.ensures.tree in
    let k = c.if_by_parts-right.result in
    let b = c.if_by_parts-right.ensures in
    let r = c.in_ok-rest-in-Some in (
      omega (arith, b.below, ap (λ (z : TermId). z.0) b.whole),
      (
        rest_else d c.args.whole c.args.form c.requires.pair c.requires.is o.scrutinee o.branches e.0 _ _ e.1 c.in-Some.ensures.some k b.whole b.tree b.condition_held b.then_held b.else_held d1 u r.rest r.ensures.held r.ensures.tree,
        rest_form d c.args.whole c.args.form c.requires.pair c.requires.is o.scrutinee o.branches e.0 _ _ e.1 c.in-Some.ensures.some k b.whole b.tree b.condition_held b.then_held b.else_held d1 u r.rest r.ensures.held r.ensures.tree,
      ),
    )

pub alike_rest-requires-clause-left : goal.alike_rest-requires-clause-left
alike_rest-requires-clause-left t c =
    let d = c.args.draft.now in
    let d1 = c.add.new.self in
    let d2 = c.match_evidence.new.draft in
    let u = Extends_trans d d1 d2 (AddsTrees_extends d d1 c.in_ok-rest-in-Some.ensures.grows) c.in_ok-inner-in-Some.ensures.grows in
    let o = c.others_of-others.result in
    let e = c.others_of-others.ensures.tree in
    let k = c.if_by_parts-right.result in
    let b = c.if_by_parts-right.ensures in
    let r = c.in_ok-rest-in-Some in
    let l : Conditional = record { whole = c.args.whole; condition = k.condition; then_part = k.then_part; else_part = r.rest } in
    left_parts d c.args.whole c.args.form c.requires.pair c.requires.is o.scrutinee o.branches e.0 _ _ e.1 c.in-Some.ensures.some k b.whole b.tree b.condition_held b.then_held b.else_held d2 u r.rest
    (held_later d1 d2 c.in_ok-inner-in-Some.ensures.grows r.rest r.ensures.held) (tree_later d1 d2 c.in_ok-inner-in-Some.ensures.grows r.rest r.ensures.held ∙ r.ensures.tree) l refl refl refl refl

pub alike_rest-requires-clause-left_is : goal.alike_rest-requires-clause-left_is
alike_rest-requires-clause-left_is t c =
    let d = c.args.draft.now in
    let d1 = c.add.new.self in
    let d2 = c.match_evidence.new.draft in
    let u = Extends_trans d d1 d2 (AddsTrees_extends d d1 c.in_ok-rest-in-Some.ensures.grows) c.in_ok-inner-in-Some.ensures.grows in
    let o = c.others_of-others.result in
    let e = c.others_of-others.ensures.tree in
    let k = c.if_by_parts-right.result in
    let b = c.if_by_parts-right.ensures in
    let r = c.in_ok-rest-in-Some in
    let l : Conditional = record { whole = c.args.whole; condition = k.condition; then_part = k.then_part; else_part = r.rest } in
    left_match d c.args.whole c.args.form c.requires.pair c.requires.is o.scrutinee o.branches e.0 _ _ e.1 c.in-Some.ensures.some k b.whole b.tree b.condition_held b.then_held b.else_held d2 u r.rest
    (held_later d1 d2 c.in_ok-inner-in-Some.ensures.grows r.rest r.ensures.held) (tree_later d1 d2 c.in_ok-inner-in-Some.ensures.grows r.rest r.ensures.held ∙ r.ensures.tree) l refl refl refl refl

pub alike_rest-requires-clause-right : goal.alike_rest-requires-clause-right
alike_rest-requires-clause-right t c =
    let d = c.args.draft.now in
    let d1 = c.add.new.self in
    let d2 = c.match_evidence.new.draft in
    let u = Extends_trans d d1 d2 (AddsTrees_extends d d1 c.in_ok-rest-in-Some.ensures.grows) c.in_ok-inner-in-Some.ensures.grows in
    let o = c.others_of-others.result in
    let e = c.others_of-others.ensures.tree in
    let k = c.if_by_parts-right.result in
    let b = c.if_by_parts-right.ensures in
    parts_later d d2 u k (right_parts d c.args.whole c.args.form c.requires.pair c.requires.is o.scrutinee o.branches e.0 _ _ e.1 c.in-Some.ensures.some k b.whole b.tree b.condition_held b.then_held b.else_held)

pub alike_rest-requires-clause-right_is : goal.alike_rest-requires-clause-right_is
alike_rest-requires-clause-right_is t c =
    let d = c.args.draft.now in
    let d1 = c.add.new.self in
    let d2 = c.match_evidence.new.draft in
    let u = Extends_trans d d1 d2 (AddsTrees_extends d d1 c.in_ok-rest-in-Some.ensures.grows) c.in_ok-inner-in-Some.ensures.grows in
    let o = c.others_of-others.result in
    let e = c.others_of-others.ensures.tree in
    let k = c.if_by_parts-right.result in
    let b = c.if_by_parts-right.ensures in
    if_later d d2 u k (right_parts d c.args.whole c.args.form c.requires.pair c.requires.is o.scrutinee o.branches e.0 _ _ e.1 c.in-Some.ensures.some k b.whole b.tree b.condition_held b.then_held b.else_held) b.tree

pub alike_rest-requires-clause-sides : goal.alike_rest-requires-clause-sides
alike_rest-requires-clause-sides t c =
    let d = c.args.draft.now in
    let d1 = c.add.new.self in
    let d2 = c.match_evidence.new.draft in
    let u = Extends_trans d d1 d2 (AddsTrees_extends d d1 c.in_ok-rest-in-Some.ensures.grows) c.in_ok-inner-in-Some.ensures.grows in
    subst (λ (z : TermId). ArePair d2 c.args.whole z) (sym c.if_by_parts-right.ensures.whole) (pair_later d d2 u c.args.whole c.args.form c.requires.pair)

pub alike_rest-requires-clause-rest : goal.alike_rest-requires-clause-rest
alike_rest-requires-clause-rest t c =
    let d = c.args.draft.now in
    let d1 = c.add.new.self in
    let d2 = c.match_evidence.new.draft in
    let y = c.in_ok-inner-in-Some.ensures.grows in
    let r = c.in_ok-rest-in-Some in
    let k = c.if_by_parts-right.result in
    let h : Holds d1.trees k.else_part = held_later d d1 (AddsTrees_extends d d1 r.ensures.grows) k.else_part c.if_by_parts-right.ensures.else_held in
    subst (λ (z : Tree). Shows d2 c.in_ok-inner-in-Some.inner z (tree_at d2.trees k.else_part)) (sym (tree_later d1 d2 y r.rest r.ensures.held))
    (subst (λ (z : Tree). Shows d2 c.in_ok-inner-in-Some.inner (tree_at d1.trees r.rest) z) (sym (tree_later d1 d2 y k.else_part h)) c.in_ok-inner-in-Some.ensures.shows)

pub returns-in_err-inner-in-Some-clause-grows : goal.returns-in_err-inner-in-Some-clause-grows
returns-in_err-inner-in-Some-clause-grows t c = Extends_trans _ _ _ (AddsTrees_extends _ _ c.in_ok-rest-in-Some.ensures.grows) c.match_evidence.ensures.grows

pub returns-in_err-made-in-Some-clause-grows : goal.returns-in_err-made-in-Some-clause-grows
returns-in_err-made-in-Some-clause-grows t c =
    let d = c.args.draft.now in
    let d1 = c.add.new.self in
    let d2 = c.match_evidence.new.draft in
    Extends_trans d d2 _ (Extends_trans d d1 d2 (AddsTrees_extends d d1 c.in_ok-rest-in-Some.ensures.grows) c.in_ok-inner-in-Some.ensures.grows) c.alike_rest.ensures.grows

pub returns-in_ok-made-in-Some-clause-grows : goal.returns-in_ok-made-in-Some-clause-grows
returns-in_ok-made-in-Some-clause-grows t c =
    let d = c.args.draft.now in
    let d1 = c.add.new.self in
    let d2 = c.match_evidence.new.draft in
    Extends_trans d d2 _ (Extends_trans d d1 d2 (AddsTrees_extends d d1 c.in_ok-rest-in-Some.ensures.grows) c.in_ok-inner-in-Some.ensures.grows) c.in_ok-made-in-Some.ensures.grows
