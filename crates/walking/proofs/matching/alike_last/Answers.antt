use Rattle.std.proofs.Common.{sym, subst}
use Rattle.trees.specs.Tree.{Tree}
use Rattle.trees.specs.Node.{tree_at}
use Rattle.evidence.specs.Laws.{Extends_trans}
use Rattle.congruence.specs.Alike.{Shows}
use Rattle.congruence.proofs.Later.{held_later, tree_later, pair_later}
use Rattle.walking.proofs.matching.alike_last.Goals as goal

pub flip-requires-clause-pair : goal.flip-requires-clause-pair
flip-requires-clause-pair c = pair_later c.args.draft.now c.alike_branch.new.draft c.in_ok-there.ensures.grows c.args.whole c.args.inner c.requires.pair

pub flip-requires-clause-shows : goal.flip-requires-clause-shows
flip-requires-clause-shows c =
    let d = c.args.draft.now in
    let d1 = c.alike_branch.new.draft in
    let x = c.in_ok-there.ensures.grows in
    let p = c.requires.pair in
    subst (λ (t : Tree). Shows d1 c.in_ok-there.there t (tree_at d1.trees c.args.inner)) (sym (tree_later d d1 x c.args.whole p.left.held))
    (subst (λ (t : Tree). Shows d1 c.in_ok-there.there (tree_at d.trees c.args.whole) t) (sym (tree_later d d1 x c.args.inner p.right.held)) c.in_ok-there.ensures.shows)

pub returns-in_err-made-clause-grows : goal.returns-in_err-made-clause-grows
returns-in_err-made-clause-grows c = Extends_trans _ _ _ c.in_ok-there.ensures.grows c.in_err-made.ensures.grows

pub returns-clause-grows : goal.returns-clause-grows
returns-clause-grows c = Extends_trans _ _ _ c.in_ok-there.ensures.grows c.in_ok-made.ensures.grows

pub returns-clause-shows : goal.returns-clause-shows
returns-clause-shows c =
    let d = c.args.draft.now in
    let d1 = c.alike_branch.new.draft in
    let d2 = c.flip.new.draft in
    let x = c.in_ok-there.ensures.grows in
    let y = c.in_ok-made.ensures.grows in
    let p = c.requires.pair in
    subst (λ (t : Tree). Shows d2 c.in_ok-made.made t (tree_at d2.trees c.args.whole)) (sym (tree_later d1 d2 y c.args.inner (held_later d d1 x c.args.inner p.right.held)))
    (subst (λ (t : Tree). Shows d2 c.in_ok-made.made (tree_at d1.trees c.args.inner) t) (sym (tree_later d1 d2 y c.args.whole (held_later d d1 x c.args.whole p.left.held))) c.in_ok-made.ensures.shows)
