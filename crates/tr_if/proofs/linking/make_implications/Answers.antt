use Rattle.std.proofs.Common.{◌∙◌}
use Rattle.evidence.specs.Laws.{Extends_trans, AddsTrees_extends}
use Rattle.evidence.proofs.Formulas.{formula_later}
use Rattle.congruence.proofs.Later.{held_later, tree_later}
use Rattle.tr_if.proofs.Links.{open_condition, open_one, open_two, right_one, right_two, formula_number, implied_place}
use Rattle.tr_if.proofs.linking.make_implications.Goals as goal

pub implications-requires : goal.implications-requires
implications-requires c =
    let d = c.args.draft.now in
    let r = c.requires in
    let env = c.args.env.now in
    let n = c.args.fresh in
    record {
      condition = open_condition d env c.args.left c.args.parts n r.left r.formula r.parts;
      a = open_one d env c.args.left c.args.parts n r.left r.formula r.parts;
      b = open_two d env c.args.left c.args.parts n r.left r.formula r.parts;
    }

pub implications-requires-2 : goal.implications-requires-2
implications-requires-2 c =
    let d = c.args.draft.now in
    let d1 = c.implications.new.g in
    let x = AddsTrees_extends d d1 c.in_ok-image.ensures.grows in
    let r = c.requires in
    let p = c.args.parts in
    let env = c.args.env.now in
    let n = c.args.fresh in
    record {
      condition = formula_number d1 c.args.left.condition (formula_later d d1 x c.args.left.condition r.left.condition);
      a = formula_number d1 p.one.right (formula_later d d1 x p.one.right (right_one d env c.args.left p n r.left r.formula r.parts));
      b = formula_number d1 p.two.right (formula_later d d1 x p.two.right (right_two d env c.args.left p n r.left r.formula r.parts));
    }

pub returns-clause-image : goal.returns-clause-image
returns-clause-image c =
    let d1 = c.implications.new.g in
    let d2 = c.implications-2.new.g in
    tree_later d1 d2 (AddsTrees_extends d1 d2 c.in_ok-right.ensures.grows) c.in_ok-image.image c.in_ok-image.ensures.formula.held ∙ c.in_ok-image.ensures.tree

pub returns-clause-right : goal.returns-clause-right
returns-clause-right c =
    let d = c.args.draft.now in
    let d1 = c.implications.new.g in
    let x = AddsTrees_extends d d1 c.in_ok-image.ensures.grows in
    let r = c.requires in
    let p = c.args.parts in
    c.in_ok-right.ensures.tree
    ∙ cc (tree_later d d1 x c.args.left.condition r.left.condition.held, tree_later d d1 x p.one.right r.parts.one.place.left_held, tree_later d d1 x p.two.right r.parts.two.place.left_held)

pub returns-clause-place : goal.returns-clause-place
returns-clause-place c =
    let d = c.args.draft.now in
    let d1 = c.implications.new.g in
    let d2 = c.implications-2.new.g in
    let x = AddsTrees_extends d d1 c.in_ok-image.ensures.grows in
    let y = AddsTrees_extends d1 d2 c.in_ok-right.ensures.grows in
    let r = c.requires in
    let i = c.in_ok-image in
    implied_place d c.args.env.now c.args.left c.args.parts c.args.fresh r.left r.formula r.parts d2 (Extends_trans d d1 d2 x y) i.image c.in_ok-right.right (held_later d1 d2 y i.image i.ensures.formula.held) (returns-clause-image c) c.in_ok-right.ensures.formula.held (returns-clause-right c)
