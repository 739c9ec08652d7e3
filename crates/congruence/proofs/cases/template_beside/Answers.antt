use Rattle.std.proofs.Common.{◌≡◌, sym, ap, ◌∙◌}
use Rattle.trees.specs.Node.{tree_at}
use Rattle.trees.specs.Sorts.{sort_of}
use Rattle.tasks.specs.Task.{neg}
use Rattle.rules.specs.Forms.{equal}
use Rattle.evidence.specs.Laws.{Extends_trans, AddsTrees_extends}
use Rattle.congruence.proofs.Later.{tree_later, held_later, pair_later}
use Rattle.congruence.proofs.HoleTemplates.{hole_later}
use Rattle.congruence.proofs.BesideTemplates.{beside_template, beside_before, beside_after}
use Rattle.congruence.proofs.cases.template_beside.Goals as goal

pub returns-clause-template : goal.returns-clause-template
returns-clause-template c =
    let d = c.args.draft.now in
    let d1 = c.open_hole.new.draft in
    let d2 = c.add.new.self in
    let d3 = c.add-2.new.self in
    let x1 = AddsTrees_extends d d1 c.in_ok-hole.ensures.grows in
    let y = Extends_trans d1 d2 d3 (AddsTrees_extends d1 d2 c.in_ok-open.ensures.grows) (AddsTrees_extends d2 d3 c.in_ok-template.ensures.grows) in
    let x = Extends_trans d d1 d3 x1 y in
    let l = c.args.l in
    let r = c.args.r in
    let m = c.args.other in
    let p = c.requires.pair in
    let hl = held_later d d1 x1 l p.left.held in
    let hr = held_later d d1 x1 r p.right.held in
    let hole = c.in_ok-hole.hole in
    let h = c.in_ok-hole.ensures.hole in
    let q : tree_at d3.trees c.in_ok-template.template ≡ neg (equal (tree_at d3.trees m) (tree_at d3.trees hole))
    = c.in_ok-template.ensures.tree ∙ ap neg (c.in_ok-open.ensures.tree ∙ cc (sym (tree_later d1 d3 y m (held_later d d1 x1 m c.requires.beside.right.held)), sym (tree_later d1 d3 y hole h.1.1.held))) in
    beside_template d3 hole l r m (hole_later d1 d3 y hole l r l r hl hr hl hr h) (pair_later d d3 x l r p) (pair_later d d3 x l m c.requires.beside) (ap sort_of (tree_later d d3 x l p.left.held) ∙ c.requires.term) (tree_at d3.trees c.in_ok-template.template) q

pub returns-clause-before : goal.returns-clause-before
returns-clause-before c =
    let d = c.args.draft.now in
    let d1 = c.open_hole.new.draft in
    let d2 = c.add.new.self in
    let d3 = c.add-2.new.self in
    let x1 = AddsTrees_extends d d1 c.in_ok-hole.ensures.grows in
    let y = Extends_trans d1 d2 d3 (AddsTrees_extends d1 d2 c.in_ok-open.ensures.grows) (AddsTrees_extends d2 d3 c.in_ok-template.ensures.grows) in
    let x = Extends_trans d d1 d3 x1 y in
    let l = c.args.l in
    let r = c.args.r in
    let m = c.args.other in
    let p = c.requires.pair in
    let hl = held_later d d1 x1 l p.left.held in
    let hr = held_later d d1 x1 r p.right.held in
    let hole = c.in_ok-hole.hole in
    let h = c.in_ok-hole.ensures.hole in
    let q : tree_at d3.trees c.in_ok-template.template ≡ neg (equal (tree_at d3.trees m) (tree_at d3.trees hole))
    = c.in_ok-template.ensures.tree ∙ ap neg (c.in_ok-open.ensures.tree ∙ cc (sym (tree_later d1 d3 y m (held_later d d1 x1 m c.requires.beside.right.held)), sym (tree_later d1 d3 y hole h.1.1.held))) in
    beside_before d3 hole l r m (hole_later d1 d3 y hole l r l r hl hr hl hr h) (pair_later d d3 x l r p) (pair_later d d3 x l m c.requires.beside) (ap sort_of (tree_later d d3 x l p.left.held) ∙ c.requires.term) (tree_at d3.trees c.in_ok-template.template) q

pub returns-clause-after : goal.returns-clause-after
returns-clause-after c =
    let d = c.args.draft.now in
    let d1 = c.open_hole.new.draft in
    let d2 = c.add.new.self in
    let d3 = c.add-2.new.self in
    let x1 = AddsTrees_extends d d1 c.in_ok-hole.ensures.grows in
    let y = Extends_trans d1 d2 d3 (AddsTrees_extends d1 d2 c.in_ok-open.ensures.grows) (AddsTrees_extends d2 d3 c.in_ok-template.ensures.grows) in
    let x = Extends_trans d d1 d3 x1 y in
    let l = c.args.l in
    let r = c.args.r in
    let m = c.args.other in
    let p = c.requires.pair in
    let hl = held_later d d1 x1 l p.left.held in
    let hr = held_later d d1 x1 r p.right.held in
    let hole = c.in_ok-hole.hole in
    let h = c.in_ok-hole.ensures.hole in
    let q : tree_at d3.trees c.in_ok-template.template ≡ neg (equal (tree_at d3.trees m) (tree_at d3.trees hole))
    = c.in_ok-template.ensures.tree ∙ ap neg (c.in_ok-open.ensures.tree ∙ cc (sym (tree_later d1 d3 y m (held_later d d1 x1 m c.requires.beside.right.held)), sym (tree_later d1 d3 y hole h.1.1.held))) in
    beside_after d3 hole l r m (hole_later d1 d3 y hole l r l r hl hr hl hr h) (pair_later d d3 x l r p) (pair_later d d3 x l m c.requires.beside) (ap sort_of (tree_later d d3 x l p.left.held) ∙ c.requires.term) (tree_at d3.trees c.in_ok-template.template) q
