use Rattle.std.proofs.Common.{ap, ◌∙◌}
use Rattle.trees.specs.Sorts.{sort_of}
use Rattle.trees.specs.Tree.{HLet}
use Rattle.evidence.specs.Laws.{Extends_trans, AddsTrees_extends}
use Rattle.congruence.proofs.Later.{held_later, tree_later, pair_later, node_later}
use Rattle.congruence.proofs.HoleTemplates.{hole_later}
use Rattle.congruence.proofs.ValueHoles.{value_hole}
use Rattle.congruence.proofs.values.hole_value.Goals as goal

pub returns-clause-hole : goal.returns-clause-hole
returns-clause-hole c =
    let d = c.args.draft.now in
    let d1 = c.open_hole.new.draft in
    let d2 = c.add.new.self in
    let x1 = AddsTrees_extends d d1 c.in_ok-open.ensures.grows in
    let y = AddsTrees_extends d1 d2 c.in_ok-hole.ensures.grows in
    let x = Extends_trans d d1 d2 x1 y in
    let a = c.args.a in
    let b = c.args.b in
    let k = c.args.body in
    let p = c.requires.pair in
    let w = c.requires.sides in
    let ha = held_later d d1 x1 a p.left.held in
    let hb = held_later d d1 x1 b p.right.held in
    let opened = c.in_ok-open.open in
    let h = c.in_ok-open.ensures.hole in
    value_hole d2 opened c.args.left c.args.right a b k c.in_ok-hole.hole (hole_later d1 d2 y opened a b a b ha hb ha hb h) (pair_later d d2 x a b p) (ap sort_of (tree_later d d2 x a p.left.held) ∙ c.requires.term) (pair_later d d2 x c.args.left c.args.right w) c.in_ok-hole.ensures.held
    (node_later d d2 x HLet c.args.left a k w.left.held p.left.held c.requires.body_held c.requires.left_is) (node_later d d2 x HLet c.args.right b k w.right.held p.right.held c.requires.body_held c.requires.right_is)
    (c.in_ok-hole.ensures.tree ∙ cc (tree_later d1 d2 y opened h.1.1.held, tree_later d1 d2 y k (held_later d d1 x1 k c.requires.body_held)))
