use Rattle.std.proofs.Common.{sym, ap, subst, ◌∙◌}
use Rattle.trees.specs.Tree.{Tree}
use Rattle.trees.specs.Node.{tree_at}
use Rattle.trees.specs.Sorts.{sort_of}
use Rattle.trees.specs.Binding.{inst}
use Rattle.trees.specs.laws.Sorts.{term_no_vars}
use Rattle.evidence.specs.Laws.{Extends_trans, AddsTrees_extends}
use Rattle.congruence.specs.Alike.{Shows}
use Rattle.congruence.proofs.Later.{tree_later, closed_later, pair_later, shows_at}
use Rattle.congruence.proofs.HoleTemplates.{closed_loose}
use Rattle.congruence.proofs.ApplicationHoles.{filled_pair, filled_hole}
use Rattle.tr_recursion.proofs.constructor_matches.replacing.replace_variable.Goals as goal

pub hole_in-requires-clause-a : goal.hole_in-requires-clause-a
hole_in-requires-clause-a c = c.requires.pair.left

pub instance-requires-clause-body_held : goal.instance-requires-clause-body_held
instance-requires-clause-body_held c = c.in_ok-hole.ensures.hole.1.1.held

pub instance-requires-clause-by_held : goal.instance-requires-clause-by_held
instance-requires-clause-by_held c = (pair_later c.args.draft.now c.hole_in.new.draft (AddsTrees_extends _ _ c.in_ok-hole.ensures.grows) c.args.a c.args.b c.requires.pair).right.held

pub instance-requires-clause-closed : goal.instance-requires-clause-closed
instance-requires-clause-closed c =
    let d1 = c.hole_in.new.draft in
    let x = AddsTrees_extends _ _ c.in_ok-hole.ensures.grows in
    let p = pair_later c.args.draft.now d1 x c.args.a c.args.b c.requires.pair in
    record { sort = p.sort ∙ ap sort_of (tree_later c.args.draft.now d1 x c.args.a c.requires.pair.left.held) ∙ c.requires.term; closed = closed_loose d1 c.args.b p.right }

pub alike_replaced-requires-clause-pair : goal.alike_replaced-requires-clause-pair
alike_replaced-requires-clause-pair c = pair_later c.args.draft.now c.instance.new.g (Extends_trans _ _ _ (AddsTrees_extends _ _ c.in_ok-hole.ensures.grows) (AddsTrees_extends _ _ c.in_ok-right.ensures.grows)) c.args.a c.args.b c.requires.pair

pub alike_replaced-requires-clause-term : goal.alike_replaced-requires-clause-term
alike_replaced-requires-clause-term c = ap sort_of (tree_later c.args.draft.now c.instance.new.g (Extends_trans _ _ _ (AddsTrees_extends _ _ c.in_ok-hole.ensures.grows) (AddsTrees_extends _ _ c.in_ok-right.ensures.grows)) c.args.a c.requires.pair.left.held) ∙ c.requires.term

pub alike_replaced-requires-clause-hole : goal.alike_replaced-requires-clause-hole
alike_replaced-requires-clause-hole c =
    let d = c.args.draft.now in
    let d1 = c.hole_in.new.draft in
    let x = AddsTrees_extends _ _ c.in_ok-hole.ensures.grows in
    filled_hole d1 c.instance.new.g (AddsTrees_extends _ _ c.in_ok-right.ensures.grows) c.in_ok-hole.hole c.args.left c.args.a c.args.b c.in_ok-right.right c.in_ok-hole.ensures.hole (closed_later d d1 x c.args.left c.requires.left)
    (pair_later d d1 x c.args.a c.args.b c.requires.pair) (ap sort_of (tree_later d d1 x c.args.a c.requires.pair.left.held) ∙ c.requires.term) c.in_ok-right.ensures.held c.in_ok-right.ensures.tree

pub alike_replaced-requires-clause-sides : goal.alike_replaced-requires-clause-sides
alike_replaced-requires-clause-sides c =
    let d = c.args.draft.now in
    let d1 = c.hole_in.new.draft in
    let x = AddsTrees_extends _ _ c.in_ok-hole.ensures.grows in
    filled_pair d1 c.instance.new.g (AddsTrees_extends _ _ c.in_ok-right.ensures.grows) c.in_ok-hole.hole c.args.left c.args.a c.args.b c.in_ok-right.right c.in_ok-hole.ensures.hole (closed_later d d1 x c.args.left c.requires.left)
    (pair_later d d1 x c.args.a c.args.b c.requires.pair) (ap sort_of (tree_later d d1 x c.args.a c.requires.pair.left.held) ∙ c.requires.term) c.in_ok-right.ensures.held c.in_ok-right.ensures.tree

pub alike_replaced-requires-clause-shows : goal.alike_replaced-requires-clause-shows
alike_replaced-requires-clause-shows c =
    shows_at c.args.draft.now c.instance.new.g (Extends_trans _ _ _ (AddsTrees_extends _ _ c.in_ok-hole.ensures.grows) (AddsTrees_extends _ _ c.in_ok-right.ensures.grows)) c.args.alike c.args.a c.args.b c.requires.pair.left.held c.requires.pair.right.held c.requires.shows

pub returns-in_err-right-clause-grows : goal.returns-in_err-right-clause-grows
returns-in_err-right-clause-grows c = Extends_trans _ _ _ (AddsTrees_extends _ _ c.in_ok-hole.ensures.grows) (AddsTrees_extends _ _ c.in_err-right.ensures.grows)

pub returns-in_err-alike-clause-grows : goal.returns-in_err-alike-clause-grows
returns-in_err-alike-clause-grows c = Extends_trans _ _ _ (Extends_trans _ _ _ (AddsTrees_extends _ _ c.in_ok-hole.ensures.grows) (AddsTrees_extends _ _ c.in_ok-right.ensures.grows)) c.in_err-alike.ensures.grows

pub returns-clause-grows : goal.returns-clause-grows
returns-clause-grows c = Extends_trans _ _ _ (Extends_trans _ _ _ (AddsTrees_extends _ _ c.in_ok-hole.ensures.grows) (AddsTrees_extends _ _ c.in_ok-right.ensures.grows)) c.in_ok-alike.ensures.grows

pub returns-clause-pair : goal.returns-clause-pair
returns-clause-pair c =
    let d = c.args.draft.now in
    let d1 = c.hole_in.new.draft in
    let x = AddsTrees_extends _ _ c.in_ok-hole.ensures.grows in
    pair_later c.instance.new.g c.alike_replaced.new.draft c.in_ok-alike.ensures.grows c.args.left c.in_ok-right.right
    (filled_pair d1 c.instance.new.g (AddsTrees_extends _ _ c.in_ok-right.ensures.grows) c.in_ok-hole.hole c.args.left c.args.a c.args.b c.in_ok-right.right c.in_ok-hole.ensures.hole (closed_later d d1 x c.args.left c.requires.left)
    (pair_later d d1 x c.args.a c.args.b c.requires.pair) (ap sort_of (tree_later d d1 x c.args.a c.requires.pair.left.held) ∙ c.requires.term) c.in_ok-right.ensures.held c.in_ok-right.ensures.tree)

pub returns-clause-right_is : goal.returns-clause-right_is
returns-clause-right_is c =
    let d = c.args.draft.now in
    let d1 = c.hole_in.new.draft in
    let b = tree_later d d1 (AddsTrees_extends _ _ c.in_ok-hole.ensures.grows) c.args.b c.requires.pair.right.held in
    tree_later c.instance.new.g c.alike_replaced.new.draft c.in_ok-alike.ensures.grows c.in_ok-right.right c.in_ok-right.ensures.held ∙ c.in_ok-right.ensures.tree ∙ ap (inst (tree_at d1.trees c.in_ok-hole.hole)) b
    ∙ c.in_ok-hole.ensures.fills (tree_at d.trees c.args.b) (closed_loose d c.args.b c.requires.pair.right) (term_no_vars (tree_at d.trees c.args.b) (c.requires.pair.sort ∙ c.requires.term))

pub returns-clause-shows : goal.returns-clause-shows
returns-clause-shows c =
    let d = c.args.draft.now in
    let d2 = c.instance.new.g in
    let d3 = c.alike_replaced.new.draft in
    let x = Extends_trans _ _ _ (AddsTrees_extends _ _ c.in_ok-hole.ensures.grows) (AddsTrees_extends _ _ c.in_ok-right.ensures.grows) in
    subst (λ (z : Tree). Shows d3 c.in_ok-alike.alike z (tree_at d3.trees c.in_ok-right.right)) (tree_later d d2 x c.args.left c.requires.left.held)
    (subst (λ (z : Tree). Shows d3 c.in_ok-alike.alike (tree_at d2.trees c.args.left) z) (sym (tree_later d2 d3 c.in_ok-alike.ensures.grows c.in_ok-right.right c.in_ok-right.ensures.held)) c.in_ok-alike.ensures.shows)
