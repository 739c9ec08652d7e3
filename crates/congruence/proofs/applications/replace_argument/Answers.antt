use Rattle.std.proofs.Common.{sym, ap, subst, ◌∙◌}
use Rattle.trees.specs.Tree.{Tree}
use Rattle.trees.specs.Node.{tree_at}
use Rattle.trees.specs.Sorts.{sort_of}
use Rattle.evidence.specs.Laws.{Extends_trans, AddsTrees_extends}
use Rattle.congruence.specs.Alike.{Shows}
use Rattle.congruence.proofs.Later.{tree_later, closed_later, pair_later, shows_at}
use Rattle.congruence.proofs.ApplicationHoles.{replaced_tree}
use Rattle.congruence.proofs.applications.replace_argument.Goals as goal

pub fill-requires-clause-left : goal.fill-requires-clause-left
fill-requires-clause-left c =
    let d = c.args.draft.now in
    closed_later d c.hole_argument.new.draft (AddsTrees_extends d c.hole_argument.new.draft c.in_ok-hole.ensures.grows) c.args.left c.requires.left

pub fill-requires-clause-pair : goal.fill-requires-clause-pair
fill-requires-clause-pair c =
    let d = c.args.draft.now in
    pair_later d c.hole_argument.new.draft (AddsTrees_extends d c.hole_argument.new.draft c.in_ok-hole.ensures.grows) c.args.a c.args.b c.requires.pair

pub fill-requires-clause-term : goal.fill-requires-clause-term
fill-requires-clause-term c =
    let d = c.args.draft.now in
    ap sort_of (tree_later d c.hole_argument.new.draft (AddsTrees_extends d c.hole_argument.new.draft c.in_ok-hole.ensures.grows) c.args.a c.requires.pair.left.held) ∙ c.requires.term

pub alike_replaced-requires-clause-pair : goal.alike_replaced-requires-clause-pair
alike_replaced-requires-clause-pair c =
    let d = c.args.draft.now in
    let d1 = c.hole_argument.new.draft in
    let d2 = c.fill.new.draft in
    pair_later d d2 (Extends_trans d d1 d2 (AddsTrees_extends d d1 c.in_ok-hole.ensures.grows) (AddsTrees_extends d1 d2 c.in_ok-right.ensures.grows)) c.args.a c.args.b c.requires.pair

pub alike_replaced-requires-clause-term : goal.alike_replaced-requires-clause-term
alike_replaced-requires-clause-term c =
    let d = c.args.draft.now in
    let d1 = c.hole_argument.new.draft in
    let d2 = c.fill.new.draft in
    ap sort_of (tree_later d d2 (Extends_trans d d1 d2 (AddsTrees_extends d d1 c.in_ok-hole.ensures.grows) (AddsTrees_extends d1 d2 c.in_ok-right.ensures.grows)) c.args.a c.requires.pair.left.held) ∙ c.requires.term

pub alike_replaced-requires-clause-shows : goal.alike_replaced-requires-clause-shows
alike_replaced-requires-clause-shows c =
    let d = c.args.draft.now in
    let d1 = c.hole_argument.new.draft in
    let d2 = c.fill.new.draft in
    shows_at d d2 (Extends_trans d d1 d2 (AddsTrees_extends d d1 c.in_ok-hole.ensures.grows) (AddsTrees_extends d1 d2 c.in_ok-right.ensures.grows)) c.args.alike c.args.a c.args.b c.requires.pair.left.held c.requires.pair.right.held c.requires.shows

pub returns-in_err-right-clause-grows : goal.returns-in_err-right-clause-grows
returns-in_err-right-clause-grows c = Extends_trans _ _ _ (AddsTrees_extends _ _ c.in_ok-hole.ensures.grows) (AddsTrees_extends _ _ c.in_err-right.ensures.grows)

pub returns-in_err-alike-clause-grows : goal.returns-in_err-alike-clause-grows
returns-in_err-alike-clause-grows c = Extends_trans _ _ _ (Extends_trans _ _ _ (AddsTrees_extends _ _ c.in_ok-hole.ensures.grows) (AddsTrees_extends _ _ c.in_ok-right.ensures.grows)) c.in_err-alike.ensures.grows

pub returns-clause-grows : goal.returns-clause-grows
returns-clause-grows c = Extends_trans _ _ _ (Extends_trans _ _ _ (AddsTrees_extends _ _ c.in_ok-hole.ensures.grows) (AddsTrees_extends _ _ c.in_ok-right.ensures.grows)) c.in_ok-alike.ensures.grows

pub returns-clause-pair : goal.returns-clause-pair
returns-clause-pair c = pair_later c.fill.new.draft c.alike_replaced.new.draft c.in_ok-alike.ensures.grows c.args.left c.in_ok-right.right c.in_ok-right.ensures.pair

pub returns-clause-right_is : goal.returns-clause-right_is
returns-clause-right_is c =
    let d = c.args.draft.now in
    let d1 = c.hole_argument.new.draft in
    let d2 = c.fill.new.draft in
    let right = c.in_ok-right.right in
    let r = c.requires in
    tree_later d2 c.alike_replaced.new.draft c.in_ok-alike.ensures.grows right c.in_ok-right.ensures.pair.right.held ∙ c.in_ok-right.ensures.tree
    ∙ replaced_tree d d1 (AddsTrees_extends d d1 c.in_ok-hole.ensures.grows) c.args.symbol c.args.before.now c.args.b c.args.rest c.in_ok-hole.hole r.symbol_held r.before_held r.rest_held r.pair.right c.in_ok-hole.ensures.fills

pub returns-clause-shows : goal.returns-clause-shows
returns-clause-shows c =
    let d = c.args.draft.now in
    let d1 = c.hole_argument.new.draft in
    let d2 = c.fill.new.draft in
    let d3 = c.alike_replaced.new.draft in
    let x = Extends_trans d d1 d2 (AddsTrees_extends d d1 c.in_ok-hole.ensures.grows) (AddsTrees_extends d1 d2 c.in_ok-right.ensures.grows) in
    subst (λ (z : Tree). Shows d3 c.in_ok-alike.alike z (tree_at d3.trees c.in_ok-right.right)) (tree_later d d2 x c.args.left c.requires.left.held)
    (subst (λ (z : Tree). Shows d3 c.in_ok-alike.alike (tree_at d2.trees c.args.left) z) (sym (tree_later d2 d3 c.in_ok-alike.ensures.grows c.in_ok-right.right c.in_ok-right.ensures.pair.right.held)) c.in_ok-alike.ensures.shows)
