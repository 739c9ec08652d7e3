use Rattle.std.proofs.Common.{◌≡◌, sym, ap, subst, ◌∙◌}
use Rattle.tasks.specs.trees.Tree.{Tree, HIf, head_of}
use Rattle.tasks.specs.trees.Node.{tree_at}
use Rattle.evidence.specs.Laws.{Extends_trans, AddsTrees_trans, AddsTrees_extends}
use Rattle.congruence.proofs.Later.{held_later, tree_later}
use Rattle.tr_if.specs.conditionals.Conditionals.{replace_first}
use Rattle.tr_if.specs.conditionals.Held.{AreIfParts}
use Rattle.tr_if.proofs.conditionals.Placing.{first_is_if}
use Rattle.walking.specs.Places.{IsInstanceAt}
use Rattle.walking.proofs.PlacesLater.{place_later, trees_later}
use Rattle.tr_if.specs.Firsts.{IsHoleOf}
use Rattle.tr_if.proofs.Placing.{atom_later, first_later, hole_of_later}
use Rattle.tr_if.proofs.ByFirst.{first_place, then_for, else_for}
use Rattle.tr_if.proofs.Cases.{parts_are, case_made}
use Rattle.tr_if.proofs.firsts.first_case.Goals as goal

pub if_parts-parts-requires-clause-head : goal.if_parts-parts-requires-clause-head
if_parts-parts-requires-clause-head c =
    let d = c.args.draft.now in
    let w = c.args.whole in
    subst (λ s. head_of (tree_at s w) ≡ HIf) (sym c.store.ensures) (first_is_if (tree_at d.trees c.args.atom.formula) (tree_at d.trees w) c.requires.first.first)

pub place_at-requires : goal.place_at-requires
place_at-requires c = first_place c.args.draft.now c.args.env.now c.args.atom c.args.whole c.args.fresh c.requires.atom c.requires.first

pub open_place-requires : goal.open_place-requires
open_place-requires c =
    let d = c.args.draft.now in
    let d1 = c.place_at.new.draft in
    let x = AddsTrees_extends d d1 c.in_ok-place.ensures.grows in
    let r = c.requires in
    record { atom = atom_later d d1 x c.args.env.now c.args.atom c.args.fresh r.atom; first = first_later d d1 x c.args.atom.formula c.args.whole r.atom.place.open_held r.first }

pub put_part-requires : goal.put_part-requires
put_part-requires c =
    let d = c.args.draft.now in
    let d1 = c.place_at.new.draft in
    let d2 = c.open_place.new.draft in
    let x = Extends_trans d d1 d2 (AddsTrees_extends d d1 c.in_ok-place.ensures.grows) (AddsTrees_extends d1 d2 c.in_ok-hole.ensures.grows) in
    let r = c.requires in
    let a = c.args.atom in
    let w = c.args.whole in
    let env = c.args.env.now in
    let n = c.args.fresh in
    let k = c.if_parts-parts.result in
    let ip = subst (λ s. AreIfParts s (tree_at s w) k) c.store.ensures c.if_parts-parts.ensures in
    let p2 = atom_later d d2 x env a n r.atom in
    let f2 = first_later d d2 x a.formula w r.atom.place.open_held r.first in
    record {
      atom = p2;
      first = f2;
      part = then_for d2 env a w n p2 f2 k.condition k.then_part k.else_part (held_later d d2 x k.then_part ip.then_part) (held_later d d2 x k.else_part ip.else_part) (parts_are d d2 x env a w n r.atom r.first k ip);
    }

pub put_part-requires-2 : goal.put_part-requires-2
put_part-requires-2 c =
    let d = c.args.draft.now in
    let d1 = c.place_at.new.draft in
    let d2 = c.open_place.new.draft in
    let d3 = c.put_part.new.draft in
    let x2 = Extends_trans d d1 d2 (AddsTrees_extends d d1 c.in_ok-place.ensures.grows) (AddsTrees_extends d1 d2 c.in_ok-hole.ensures.grows) in
    let x = Extends_trans d d2 d3 x2 (AddsTrees_extends d2 d3 c.in_ok-first.ensures.grows) in
    let r = c.requires in
    let a = c.args.atom in
    let w = c.args.whole in
    let env = c.args.env.now in
    let n = c.args.fresh in
    let k = c.if_parts-parts.result in
    let ip = subst (λ s. AreIfParts s (tree_at s w) k) c.store.ensures c.if_parts-parts.ensures in
    let p3 = atom_later d d3 x env a n r.atom in
    let f3 = first_later d d3 x a.formula w r.atom.place.open_held r.first in
    record {
      atom = p3;
      first = f3;
      part = else_for d3 env a w n p3 f3 k.condition k.then_part k.else_part (held_later d d3 x k.then_part ip.then_part) (held_later d d3 x k.else_part ip.else_part) (parts_are d d3 x env a w n r.atom r.first k ip);
    }

pub parts_at-at-requires : goal.parts_at-at-requires
parts_at-at-requires c =
    let d = c.args.draft.now in
    let d1 = c.place_at.new.draft in
    let d2 = c.open_place.new.draft in
    let d3 = c.put_part.new.draft in
    let d4 = c.put_part-2.new.draft in
    let y = Extends_trans d1 d3 d4 (Extends_trans d1 d2 d3 (AddsTrees_extends d1 d2 c.in_ok-hole.ensures.grows) (AddsTrees_extends d2 d3 c.in_ok-first.ensures.grows)) (AddsTrees_extends d3 d4 c.in_ok-second.ensures.grows) in
    let x = Extends_trans d d1 d4 (AddsTrees_extends d d1 c.in_ok-place.ensures.grows) y in
    let r = c.requires in
    let w = c.args.whole in
    let k = c.if_parts-parts.result in
    let ip = subst (λ s. AreIfParts s (tree_at s w) k) c.store.ensures c.if_parts-parts.ensures in
    record {
      place = place_later d1 d4 y c.args.env.now w c.in_ok-place.place c.args.fresh c.in_ok-place.ensures.place;
      node = (tree_at d4.trees k.condition, (tree_at d4.trees k.then_part, (tree_at d4.trees k.else_part, parts_are d d4 x c.args.env.now c.args.atom w c.args.fresh r.atom r.first k ip)));
    }

pub returns-clause-case : goal.returns-clause-case
returns-clause-case c =
    let d = c.args.draft.now in
    let d1 = c.place_at.new.draft in
    let d2 = c.open_place.new.draft in
    let d3 = c.put_part.new.draft in
    let d4 = c.put_part-2.new.draft in
    let x1 = AddsTrees_extends d d1 c.in_ok-place.ensures.grows in
    let x12 = AddsTrees_extends d1 d2 c.in_ok-hole.ensures.grows in
    let x23 = AddsTrees_extends d2 d3 c.in_ok-first.ensures.grows in
    let x34 = AddsTrees_extends d3 d4 c.in_ok-second.ensures.grows in
    let x2 = Extends_trans d d1 d2 x1 x12 in
    let x3 = Extends_trans d d2 d3 x2 x23 in
    let x24 = Extends_trans d2 d3 d4 x23 x34 in
    let x14 = Extends_trans d1 d2 d4 x12 x24 in
    let x = Extends_trans d d1 d4 x1 x14 in
    let r = c.requires in
    let a = c.args.atom in
    let w = c.args.whole in
    let env = c.args.env.now in
    let n = c.args.fresh in
    let k = c.if_parts-parts.result in
    let ip = subst (λ s. AreIfParts s (tree_at s w) k) c.store.ensures c.if_parts-parts.ensures in
    let at = c.parts_at-at.result in
    let ha1 = held_later d d1 x1 a.formula r.atom.place.open_held in
    let ha2 = held_later d d2 x2 a.formula r.atom.place.open_held in
    let ha3 = held_later d d3 x3 a.formula r.atom.place.open_held in
    let hw1 = held_later d d1 x1 w r.first.held in
    let h2 = hole_of_later d2 d4 x24 env _ _ c.in_ok-hole.hole c.in_ok-hole.ensures.place (trees_later d2 d4 x24 env (atom_later d d2 x2 env a n r.atom).place.env_held) in
    let h4 = subst (λ z. IsHoleOf d4 env z (tree_at d4.trees w) c.in_ok-hole.hole) (sym (tree_later d1 d4 x14 a.formula ha1)) (subst (λ z. IsHoleOf d4 env (tree_at d1.trees a.formula) z c.in_ok-hole.hole) (sym (tree_later d1 d4 x14 w hw1)) h2) in
    let wp = subst (λ z. IsInstanceAt d4 env w z n) (sym c.parts_at-at.ensures.whole) (place_later d1 d4 x14 env w c.in_ok-place.place n c.in_ok-place.ensures.place) in
    let o = c.in_ok-first in
    let s = c.in_ok-second in
    let fo : tree_at d4.trees o.first.formula ≡ replace_first (tree_at d4.trees a.formula) (tree_at d4.trees k.then_part) =
    tree_later d3 d4 x34 o.first.formula o.ensures.atom.place.open_held ∙ o.ensures.formula ∙ ap (λ (z : Tree). replace_first z (tree_at d2.trees k.then_part)) (sym (tree_later d2 d4 x24 a.formula ha2))
    ∙ ap (replace_first (tree_at d4.trees a.formula)) (sym (tree_later d2 d4 x24 k.then_part (held_later d d2 x2 k.then_part ip.then_part))) in
    let so : tree_at d4.trees s.second.formula ≡ replace_first (tree_at d4.trees a.formula) (tree_at d4.trees k.else_part) =
    s.ensures.formula ∙ ap (λ (z : Tree). replace_first z (tree_at d3.trees k.else_part)) (sym (tree_later d3 d4 x34 a.formula ha3)) ∙ ap (replace_first (tree_at d4.trees a.formula)) (sym (tree_later d3 d4 x34 k.else_part (held_later d d3 x3 k.else_part ip.else_part))) in
    case_made d d4 x env a w n r.atom r.first k ip at c.in_ok-hole.hole o.first s.second c.parts_at-at.ensures.parts c.parts_at-at.ensures.is wp h4 (atom_later d3 d4 x34 env o.first n o.ensures.atom) fo s.ensures.atom so

pub returns-in_err-first-clause-grows : goal.returns-in_err-first-clause-grows
returns-in_err-first-clause-grows c = AddsTrees_trans _ _ _ (AddsTrees_trans _ _ _ c.in_ok-place.ensures.grows c.in_ok-hole.ensures.grows) c.in_err-first.ensures.grows

pub returns-in_err-second-clause-grows : goal.returns-in_err-second-clause-grows
returns-in_err-second-clause-grows c = AddsTrees_trans _ _ _ (AddsTrees_trans _ _ _ (AddsTrees_trans _ _ _ c.in_ok-place.ensures.grows c.in_ok-hole.ensures.grows) c.in_ok-first.ensures.grows) c.in_err-second.ensures.grows

pub returns-clause-grows : goal.returns-clause-grows
returns-clause-grows c = AddsTrees_trans _ _ _ (AddsTrees_trans _ _ _ (AddsTrees_trans _ _ _ c.in_ok-place.ensures.grows c.in_ok-hole.ensures.grows) c.in_ok-first.ensures.grows) c.in_ok-second.ensures.grows
