use Rattle.std.proofs.Common.{◌≡◌, [], ◌∷◌, ◌++◌, sym, ap, subst, ◌∙◌}
use Rattle.trees.specs.Tree.{Tree, Two, HLet}
use Rattle.trees.specs.Node.{tree_at}
use Rattle.trees.specs.Sorts.{sort_of}
use Rattle.evidence.specs.Laws.{Extends_trans, AddsTrees_extends}
use Rattle.congruence.specs.Alike.{Shows}
use Rattle.congruence.proofs.Later.{held_later, tree_later, pair_later, shows_at}
use Rattle.walking.proofs.PlacesLater.{place_later, link_later}
use Rattle.walking.proofs.Binders.{made_link}
use Rattle.congruence.proofs.CaseParts.{pair_turned, pair_through}
use Rattle.walking.proofs.ArgumentPlaces.{one_pair}
use Rattle.walking.proofs.LetPlaces.{link_again}
use Rattle.walking.proofs.lets.link_let.Goals as goal

pub chain-requires-clause-right : goal.chain-requires-clause-right
chain-requires-clause-right c =
    one_pair c.args.draft.now (c.args.env.now ++ c.args.one.right ∷ []) c.args.opened.inner c.args.fresh c.args.part c.requires.pair.right c.requires.part

pub chain-requires-clause-second : goal.chain-requires-clause-second
chain-requires-clause-second c = c.requires.part.shows

pub let_places-requires-clause-one : goal.let_places-requires-clause-one
let_places-requires-clause-one c =
    let d = c.args.draft.now in
    let d1 = c.chain.new.draft in
    link_again d1 c.args.env.now c.args.value c.args.fresh _ c.args.one (link_later d d1 c.in_ok-there.ensures.grows c.args.env.now c.args.value c.args.fresh _ c.args.one c.requires.value_held c.requires.one)

pub let_places-requires-clause-term : goal.let_places-requires-clause-term
let_places-requires-clause-term c = ap sort_of (tree_later c.args.draft.now c.chain.new.draft c.in_ok-there.ensures.grows c.args.value c.requires.value_held) ∙ c.requires.term

pub let_places-requires-clause-part : goal.let_places-requires-clause-part
let_places-requires-clause-part c =
    let d = c.args.draft.now in
    let d1 = c.chain.new.draft in
    let longer = c.args.env.now ++ c.args.one.right ∷ [] in
    link_again d1 longer c.args.opened.inner c.args.fresh _ c.args.part (link_later d d1 c.in_ok-there.ensures.grows longer c.args.opened.inner c.args.fresh _ c.args.part c.requires.pair.right.held c.requires.part)

pub alike_body-requires-clause-value_held : goal.alike_body-requires-clause-value_held
alike_body-requires-clause-value_held c =
    let d = c.args.draft.now in
    let d1 = c.chain.new.draft in
    let d2 = c.let_places.new.draft in
    held_later d d2 (Extends_trans d d1 d2 c.in_ok-there.ensures.grows (AddsTrees_extends d1 d2 c.in_ok-m.ensures.grows)) c.args.one.right c.requires.one.place.left_held

pub chain-requires-2-clause-left : goal.chain-requires-2-clause-left
chain-requires-2-clause-left c =
    let d = c.args.draft.now in
    let d1 = c.chain.new.draft in
    let d2 = c.let_places.new.draft in
    let d3 = c.alike_body.new.draft in
    let x = Extends_trans d d2 d3 (Extends_trans d d1 d2 c.in_ok-there.ensures.grows (AddsTrees_extends d1 d2 c.in_ok-m.ensures.grows)) c.in_ok-back.ensures.grows in
    pair_later d d3 x c.args.left c.args.part.right (pair_through d c.args.left c.args.opened.inner c.args.part.right c.requires.pair (one_pair d (c.args.env.now ++ c.args.one.right ∷ []) c.args.opened.inner c.args.fresh c.args.part c.requires.pair.right c.requires.part))

pub chain-requires-2-clause-right : goal.chain-requires-2-clause-right
chain-requires-2-clause-right c =
    let d2 = c.let_places.new.draft in
    let d3 = c.alike_body.new.draft in
    pair_later d2 d3 c.in_ok-back.ensures.grows c.args.part.right c.in_ok-m.m.right (pair_turned d2 c.in_ok-m.m.right c.args.part.right c.in_ok-m.ensures.pair)

pub chain-requires-2-clause-first : goal.chain-requires-2-clause-first
chain-requires-2-clause-first c =
    let d = c.args.draft.now in
    let d1 = c.chain.new.draft in
    let d2 = c.let_places.new.draft in
    let d3 = c.alike_body.new.draft in
    let x = c.in_ok-there.ensures.grows in
    let y = Extends_trans d1 d2 d3 (AddsTrees_extends d1 d2 c.in_ok-m.ensures.grows) c.in_ok-back.ensures.grows in
    let left = c.args.left in
    let right = c.args.part.right in
    let hl = c.requires.pair.left.held in
    let hr = c.requires.part.place.left_held in
    let s = subst (λ (t : Tree). Shows d1 c.in_ok-there.there t (tree_at d1.trees right)) (sym (tree_later d d1 x left hl)) (subst (λ (t : Tree). Shows d1 c.in_ok-there.there (tree_at d.trees left) t) (sym (tree_later d d1 x right hr)) c.in_ok-there.ensures.shows) in
    shows_at d1 d3 y c.in_ok-there.there left right (held_later d d1 x left hl) (held_later d d1 x right hr) s

pub returns-in_err-m-clause-grows : goal.returns-in_err-m-clause-grows
returns-in_err-m-clause-grows c = Extends_trans _ _ _ c.in_ok-there.ensures.grows (AddsTrees_extends _ _ c.in_err-m.ensures.grows)

pub returns-in_err-back-clause-grows : goal.returns-in_err-back-clause-grows
returns-in_err-back-clause-grows c = Extends_trans _ _ _ (Extends_trans _ _ _ c.in_ok-there.ensures.grows (AddsTrees_extends _ _ c.in_ok-m.ensures.grows)) c.in_err-back.ensures.grows

pub returns-in_err-alike-clause-grows : goal.returns-in_err-alike-clause-grows
returns-in_err-alike-clause-grows c = Extends_trans _ _ _ (Extends_trans _ _ _ (Extends_trans _ _ _ c.in_ok-there.ensures.grows (AddsTrees_extends _ _ c.in_ok-m.ensures.grows)) c.in_ok-back.ensures.grows) c.in_err-alike.ensures.grows

pub returns-clause-grows : goal.returns-clause-grows
returns-clause-grows c = Extends_trans _ _ _ (Extends_trans _ _ _ (Extends_trans _ _ _ c.in_ok-there.ensures.grows (AddsTrees_extends _ _ c.in_ok-m.ensures.grows)) c.in_ok-back.ensures.grows) c.in_ok-alike.ensures.grows

pub returns-clause-link : goal.returns-clause-link
returns-clause-link c =
    let d = c.args.draft.now in
    let d1 = c.chain.new.draft in
    let d2 = c.let_places.new.draft in
    let d3 = c.alike_body.new.draft in
    let d4 = c.chain-2.new.draft in
    let env = c.args.env.now in
    let n = c.args.fresh in
    let m = c.in_ok-m.m in
    let x = c.in_ok-there.ensures.grows in
    let y = AddsTrees_extends d1 d2 c.in_ok-m.ensures.grows in
    let z = c.in_ok-back.ensures.grows in
    let p = place_later d2 d3 z env m.image m.right n c.in_ok-m.ensures.place in
    let i : tree_at d3.trees m.image ≡ Two HLet (tree_at d.trees c.args.one.image) (tree_at d.trees c.args.part.image) =
    tree_later d2 d3 z m.image c.in_ok-m.ensures.place.open_held ∙ c.in_ok-m.ensures.image ∙ cc (tree_later d d1 x c.args.one.image c.requires.one.place.open_held, tree_later d d1 x c.args.part.image c.requires.part.place.open_held) in
    made_link d3 d4 c.in_ok-alike.ensures.grows env c.args.left n _ (record { image = m.image; right = m.right; alike = c.in_ok-alike.alike }) p i
    (pair_through d3 c.args.left c.args.part.right m.right
    (pair_later d d3 (Extends_trans d d2 d3 (Extends_trans d d1 d2 x y) z) c.args.left c.args.part.right
    (pair_through d c.args.left c.args.opened.inner c.args.part.right c.requires.pair (one_pair d (env ++ c.args.one.right ∷ []) c.args.opened.inner n c.args.part c.requires.pair.right c.requires.part)))
    (pair_later d2 d3 z c.args.part.right m.right (pair_turned d2 m.right c.args.part.right c.in_ok-m.ensures.pair))) c.in_ok-alike.ensures.shows
