use Rattle.std.proofs.Common.{◌≤◌, sym, subst}
use Rattle.trees.specs.Tree.{Tree, above_params}
use Rattle.evidence.specs.Laws.{Extends_trans, AddsTrees_extends}
use Rattle.congruence.proofs.Later.{tree_later}
use Rattle.walking.proofs.Binders.{made_link, place_above}
use Rattle.tr_simplify.proofs.linking.link_law.Goals as goal

pub alike_simplified-requires-clause-above : goal.alike_simplified-requires-clause-above
alike_simplified-requires-clause-above c =
    let d = c.args.draft.now in
    let d1 = c.simplify_both.new.draft in
    let p = c.requires.place in
    subst (λ (z : Tree). above_params z ≤ c.args.fresh) (sym (tree_later d d1 (AddsTrees_extends d d1 c.in_ok-m.ensures.grows) c.args.left p.left_held)) (place_above d c.args.env.now c.args.e c.args.left c.args.fresh p)

pub returns-in_err-m-clause-grows : goal.returns-in_err-m-clause-grows
returns-in_err-m-clause-grows c = AddsTrees_extends _ _ c.in_err-m.ensures.grows

pub returns-in_err-alike-clause-grows : goal.returns-in_err-alike-clause-grows
returns-in_err-alike-clause-grows c =
    let d = c.args.draft.now in
    let d1 = c.simplify_both.new.draft in
    Extends_trans d d1 c.alike_simplified.new.draft (AddsTrees_extends d d1 c.in_ok-m.ensures.grows) c.in_err-alike.ensures.grows

pub returns-clause-grows : goal.returns-clause-grows
returns-clause-grows c =
    let d = c.args.draft.now in
    let d1 = c.simplify_both.new.draft in
    Extends_trans d d1 c.alike_simplified.new.draft (AddsTrees_extends d d1 c.in_ok-m.ensures.grows) c.in_ok-alike.ensures.grows

pub returns-clause-link : goal.returns-clause-link
returns-clause-link c =
    let d1 = c.simplify_both.new.draft in
    let d2 = c.alike_simplified.new.draft in
    let m = c.in_ok-m.m in
    made_link d1 d2 c.in_ok-alike.ensures.grows c.args.env.now c.args.left c.args.fresh _ (record { image = m.image; right = m.right; alike = c.in_ok-alike.alike }) c.in_ok-m.ensures.place c.in_ok-m.ensures.image c.in_ok-m.ensures.pair c.in_ok-alike.ensures.shows
