use Rattle.evidence.specs.Laws.{Extends_trans, AddsTrees_extends}
use Rattle.congruence.proofs.Later.{held_later, closed_later, pair_later, shows_at}
use Rattle.congruence.specs.declared.conditionals.Conditional.{Conditional}
use Rattle.congruence.proofs.CaseParts.{if_parts}
use Rattle.walking.proofs.Places.{place_closed}
use Rattle.walking.proofs.Binders.{made_link}
use Rattle.walking.proofs.ArgumentPlaces.{one_pair}
use Rattle.walking.proofs.IfPlaces.{if_later, if_pair}
use Rattle.walking.proofs.ifs.link_if.Goals as goal

pub alike_ifs-requires-clause-left : goal.alike_ifs-requires-clause-left
alike_ifs-requires-clause-left c =
    let d = c.args.draft.now in
    let d1 = c.if_places.new.draft in
    let x = AddsTrees_extends d d1 c.in_ok-m.ensures.grows in
    let l = c.args.left in
    let r = c.requires in
    if_parts d1 l (closed_later d d1 x l.whole r.left) (if_later d d1 x l.whole l.condition l.then_part l.else_part r.left.held r.condition_held r.then_held r.else_held r.left_is) (held_later d d1 x l.condition r.condition_held) (held_later d d1 x l.then_part r.then_held) (held_later d d1 x l.else_part r.else_held)

pub alike_ifs-requires-clause-right : goal.alike_ifs-requires-clause-right
alike_ifs-requires-clause-right c =
    let d = c.args.draft.now in
    let d1 = c.if_places.new.draft in
    let x = AddsTrees_extends d d1 c.in_ok-m.ensures.grows in
    let m = c.in_ok-m.m in
    let r = c.requires in
    let k : Conditional = record { whole = m.right; condition = c.args.one.right; then_part = c.args.two.right; else_part = c.args.three.right } in
    if_parts d1 k (place_closed d1 c.args.env.now m.image m.right c.args.fresh c.in_ok-m.ensures.place) c.in_ok-m.ensures.right (held_later d d1 x c.args.one.right r.one.place.left_held) (held_later d d1 x c.args.two.right r.two.place.left_held) (held_later d d1 x c.args.three.right r.three.place.left_held)

pub alike_ifs-requires-clause-sides : goal.alike_ifs-requires-clause-sides
alike_ifs-requires-clause-sides c =
    let d = c.args.draft.now in
    let d1 = c.if_places.new.draft in
    let x = AddsTrees_extends d d1 c.in_ok-m.ensures.grows in
    let m = c.in_ok-m.m in
    let l = c.args.left in
    let r = c.requires in
    let p = if_parts d l r.left r.left_is r.condition_held r.then_held r.else_held in
    if_pair d1 l.whole m.right l.then_part c.args.two.right (alike_ifs-requires-clause-left c).then_part (alike_ifs-requires-clause-right c).then_part (pair_later d d1 x l.then_part c.args.two.right (one_pair d c.args.env.now l.then_part c.args.fresh c.args.two p.then_part.right r.two))

pub alike_ifs-requires-clause-left_is : goal.alike_ifs-requires-clause-left_is
alike_ifs-requires-clause-left_is c =
    let d = c.args.draft.now in
    let d1 = c.if_places.new.draft in
    let l = c.args.left in
    let r = c.requires in
    if_later d d1 (AddsTrees_extends d d1 c.in_ok-m.ensures.grows) l.whole l.condition l.then_part l.else_part r.left.held r.condition_held r.then_held r.else_held r.left_is

pub alike_ifs-requires-clause-links : goal.alike_ifs-requires-clause-links
alike_ifs-requires-clause-links c =
    let d = c.args.draft.now in
    let d1 = c.if_places.new.draft in
    let x = AddsTrees_extends d d1 c.in_ok-m.ensures.grows in
    let l = c.args.left in
    let r = c.requires in
    record {
      condition = shows_at d d1 x c.args.one.alike l.condition c.args.one.right r.condition_held r.one.place.left_held r.one.shows;
      then_part = shows_at d d1 x c.args.two.alike l.then_part c.args.two.right r.then_held r.two.place.left_held r.two.shows;
      else_part = shows_at d d1 x c.args.three.alike l.else_part c.args.three.right r.else_held r.three.place.left_held r.three.shows;
    }

pub returns-in_err-alike-clause-grows : goal.returns-in_err-alike-clause-grows
returns-in_err-alike-clause-grows c = Extends_trans _ _ _ (AddsTrees_extends _ _ c.in_ok-m.ensures.grows) c.in_err-alike.ensures.grows

pub returns-clause-grows : goal.returns-clause-grows
returns-clause-grows c = Extends_trans _ _ _ (AddsTrees_extends _ _ c.in_ok-m.ensures.grows) c.in_ok-alike.ensures.grows

pub returns-clause-link : goal.returns-clause-link
returns-clause-link c =
    let d = c.args.draft.now in
    let d1 = c.if_places.new.draft in
    let d2 = c.alike_ifs.new.draft in
    let x = AddsTrees_extends d d1 c.in_ok-m.ensures.grows in
    let m = c.in_ok-m.m in
    let l = c.args.left in
    let r = c.requires in
    let p = if_parts d l r.left r.left_is r.condition_held r.then_held r.else_held in
    let k : Conditional = record { whole = m.right; condition = c.args.one.right; then_part = c.args.two.right; else_part = c.args.three.right } in
    let pl = if_parts d1 l (closed_later d d1 x l.whole r.left) (if_later d d1 x l.whole l.condition l.then_part l.else_part r.left.held r.condition_held r.then_held r.else_held r.left_is) (held_later d d1 x l.condition r.condition_held) (held_later d d1 x l.then_part r.then_held) (held_later d d1 x l.else_part r.else_held) in
    let pr = if_parts d1 k (place_closed d1 c.args.env.now m.image m.right c.args.fresh c.in_ok-m.ensures.place) c.in_ok-m.ensures.right (held_later d d1 x c.args.one.right r.one.place.left_held) (held_later d d1 x c.args.two.right r.two.place.left_held) (held_later d d1 x c.args.three.right r.three.place.left_held) in
    let q = if_pair d1 l.whole m.right l.then_part c.args.two.right pl.then_part pr.then_part (pair_later d d1 x l.then_part c.args.two.right (one_pair d c.args.env.now l.then_part c.args.fresh c.args.two p.then_part.right r.two)) in
    made_link d1 d2 c.in_ok-alike.ensures.grows c.args.env.now l.whole c.args.fresh _ (record { image = m.image; right = m.right; alike = c.in_ok-alike.alike }) c.in_ok-m.ensures.place c.in_ok-m.ensures.image q c.in_ok-alike.ensures.shows
