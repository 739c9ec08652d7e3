use Rattle.std.proofs.Common.{sym, subst}
use Rattle.trees.specs.Tree.{Tree}
use Rattle.trees.specs.Node.{tree_at}
use Rattle.evidence.specs.Laws.{Extends_trans}
use Rattle.congruence.specs.Alike.{Shows}
use Rattle.congruence.proofs.Later.{tree_later, pair_later, shows_later, shows_at}
use Rattle.congruence.proofs.CaseParts.{pair_turned, pair_through}
use Rattle.agreement.proofs.ShownSince.{shown_since}
use Rattle.agreement.proofs.answers.through.Goals as goal

pub returns-in_err-there-clause-grows : goal.returns-in_err-there-clause-grows
returns-in_err-there-clause-grows c = Extends_trans _ _ _ c.in_ok-back.ensures.grows c.in_err-there.ensures.grows

pub chain-requires-clause-left : goal.chain-requires-clause-left
chain-requires-clause-left c = pair_later c.args.draft.now c.flip.new.draft c.in_ok-back.ensures.grows c.args.whole c.args.part.left c.requires.left_pair

pub chain-requires-clause-right : goal.chain-requires-clause-right
chain-requires-clause-right c = pair_later c.args.draft.now c.flip.new.draft c.in_ok-back.ensures.grows c.args.part.left c.args.part.right c.requires.part.pair

pub chain-requires-clause-first : goal.chain-requires-clause-first
chain-requires-clause-first c = shows_at c.args.draft.now c.flip.new.draft c.in_ok-back.ensures.grows c.args.left c.args.whole c.args.part.left c.requires.left_pair.left.held c.requires.left_pair.right.held c.requires.left

pub chain-requires-clause-second : goal.chain-requires-clause-second
chain-requires-clause-second c =
    let p = c.requires.part.pair in
    shows_at c.args.draft.now c.flip.new.draft c.in_ok-back.ensures.grows c.args.part.alike c.args.part.left c.args.part.right p.left.held p.right.held c.requires.part.shows

pub chain-requires-2-clause-left : goal.chain-requires-2-clause-left
chain-requires-2-clause-left c =
    let d = c.args.draft.now in
    let x = Extends_trans d c.flip.new.draft c.chain.new.draft c.in_ok-back.ensures.grows c.in_ok-there.ensures.grows in
    pair_later d c.chain.new.draft x c.args.whole c.args.part.right (pair_through d c.args.whole c.args.part.left c.args.part.right c.requires.left_pair c.requires.part.pair)

pub chain-requires-2-clause-right : goal.chain-requires-2-clause-right
chain-requires-2-clause-right c =
    let d = c.args.draft.now in
    let x = Extends_trans d c.flip.new.draft c.chain.new.draft c.in_ok-back.ensures.grows c.in_ok-there.ensures.grows in
    pair_later d c.chain.new.draft x c.args.part.right c.args.other (pair_turned d c.args.other c.args.part.right c.requires.right_pair)

pub chain-requires-2-clause-first : goal.chain-requires-2-clause-first
chain-requires-2-clause-first c =
    let d = c.args.draft.now in
    let d1 = c.flip.new.draft in
    let d2 = c.chain.new.draft in
    let p = pair_later d d1 c.in_ok-back.ensures.grows c.args.whole c.args.part.right (pair_through d c.args.whole c.args.part.left c.args.part.right c.requires.left_pair c.requires.part.pair) in
    let y = c.in_ok-there.ensures.grows in
    let s : Shows d2 c.in_ok-there.there (tree_at d2.trees c.args.whole) (tree_at d2.trees c.args.part.right) = rw (tree_later d1 d2 y c.args.whole p.left.held, tree_later d1 d2 y c.args.part.right p.right.held) c.in_ok-there.ensures.shows in
    s

pub chain-requires-2-clause-second : goal.chain-requires-2-clause-second
chain-requires-2-clause-second c =
    let d = c.args.draft.now in
    let d1 = c.flip.new.draft in
    let d2 = c.chain.new.draft in
    let y = c.in_ok-there.ensures.grows in
    let x = Extends_trans d d1 d2 c.in_ok-back.ensures.grows y in
    let back = c.in_ok-back.back in
    let s = shows_later d1 d2 y back _ _ c.in_ok-back.ensures.shows in
    subst (λ (z : Tree). Shows d2 back z (tree_at d2.trees c.args.other)) (sym (tree_later d d2 x c.args.part.right c.requires.part.pair.right.held))
    (subst (λ (z : Tree). Shows d2 back (tree_at d.trees c.args.part.right) z) (sym (tree_later d d2 x c.args.other c.requires.sides.right.held)) s)

pub returns-clause-grows : goal.returns-clause-grows
returns-clause-grows c = Extends_trans _ _ _ (Extends_trans _ _ _ c.in_ok-back.ensures.grows c.in_ok-there.ensures.grows) c.chain-2.ensures.grows

pub returns-clause-shows : goal.returns-clause-shows
returns-clause-shows c = shown_since c.chain-2.result c.args.draft.now c.chain.new.draft c.chain-2.new.draft (Extends_trans _ _ _ c.in_ok-back.ensures.grows c.in_ok-there.ensures.grows) c.args.whole c.args.other c.requires.sides c.chain-2.ensures.shows
