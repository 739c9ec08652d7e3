use Rattle.std.proofs.Common.{refl, ◌∙◌}
use Rattle.evidence.specs.Laws.{Extends_trans, AddsTrees_extends}
use Rattle.congruence.proofs.Later.{tree_later, pair_later, shows_at}
use Rattle.congruence.proofs.CaseParts.{parts_later, values_later}
use Rattle.walking.proofs.Binders.{made_link}
use Rattle.walking.proofs.PlacesLater.{place_later}
use Rattle.tr_if.proofs.Links.{implied_parts, sides_pair}
use Rattle.tr_if.proofs.linking.link_cases.Goals as goal

pub implied_values-requires : goal.implied_values-requires
implied_values-requires c =
    let d = c.args.draft.now in
    let d1 = c.make_implications.new.draft in
    let m = c.in_ok-m in
    let r = c.requires in
    implied_parts d c.args.env.now c.args.left c.args.parts c.args.fresh r.left r.formula r.parts d1 (AddsTrees_extends d d1 m.ensures.grows) m.m.image m.m.right m.ensures.place m.ensures.right

pub alike_cases-requires : goal.alike_cases-requires
alike_cases-requires c =
    let d = c.args.draft.now in
    let d1 = c.make_implications.new.draft in
    let d2 = c.implied_values.new.draft in
    let m = c.in_ok-m in
    let x = AddsTrees_extends d d1 m.ensures.grows in
    let y = c.in_ok-right_values.ensures.grows in
    let xy = Extends_trans d d1 d2 x y in
    let r = c.requires in
    let l = c.args.left in
    let p = c.args.parts in
    let env = c.args.env.now in
    let n = c.args.fresh in
    record {
      left = parts_later d d2 xy l r.left;
      right = parts_later d1 d2 y _ (implied_parts d env l p n r.left r.formula r.parts d1 x m.m.image m.m.right m.ensures.place m.ensures.right).parts;
      sides = pair_later d1 d2 y l.whole m.m.right (sides_pair d env l p n r.left r.formula r.parts d1 x m.m.image m.m.right m.ensures.place m.ensures.right);
      left_values = values_later d d2 xy l c.args.values r.left r.values;
      right_values = c.in_ok-right_values.ensures.values;
      links = record {
        condition = refl;
        then_part = shows_at d d2 xy p.one.alike l.then_part p.one.right r.left.then_part.right.held r.parts.one.place.left_held r.parts.one.shows;
        else_part = shows_at d d2 xy p.two.alike l.else_part p.two.right r.left.else_part.right.held r.parts.two.place.left_held r.parts.two.shows;
      };
    }

pub returns-in_err-right_values-clause-grows : goal.returns-in_err-right_values-clause-grows
returns-in_err-right_values-clause-grows c = Extends_trans _ _ _ (AddsTrees_extends _ _ c.in_ok-m.ensures.grows) c.in_err-right_values.ensures.grows

pub returns-in_err-alike-clause-grows : goal.returns-in_err-alike-clause-grows
returns-in_err-alike-clause-grows c = Extends_trans _ _ _ (Extends_trans _ _ _ (AddsTrees_extends _ _ c.in_ok-m.ensures.grows) c.in_ok-right_values.ensures.grows) c.in_err-alike.ensures.grows

pub returns-clause-grows : goal.returns-clause-grows
returns-clause-grows c = Extends_trans _ _ _ (Extends_trans _ _ _ (AddsTrees_extends _ _ c.in_ok-m.ensures.grows) c.in_ok-right_values.ensures.grows) c.in_ok-alike.ensures.grows

pub returns-clause-link : goal.returns-clause-link
returns-clause-link c =
    let d = c.args.draft.now in
    let d1 = c.make_implications.new.draft in
    let d2 = c.implied_values.new.draft in
    let d3 = c.alike_cases.new.draft in
    let m = c.in_ok-m in
    let x = AddsTrees_extends d d1 m.ensures.grows in
    let y = c.in_ok-right_values.ensures.grows in
    let r = c.requires in
    let l = c.args.left in
    let env = c.args.env.now in
    let n = c.args.fresh in
    made_link d2 d3 c.in_ok-alike.ensures.grows env l.whole n _ (record { image = m.m.image; right = m.m.right; alike = c.in_ok-alike.alike }) (place_later d1 d2 y env m.m.image m.m.right n m.ensures.place)
    (tree_later d1 d2 y m.m.image m.ensures.place.open_held ∙ m.ensures.image) (pair_later d1 d2 y l.whole m.m.right (sides_pair d env l c.args.parts n r.left r.formula r.parts d1 x m.m.image m.m.right m.ensures.place m.ensures.right)) c.in_ok-alike.ensures.shows
