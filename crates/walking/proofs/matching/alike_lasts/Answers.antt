use Rattle.std.proofs.Common.{subst}
use Rattle.trees.specs.Tree.{Tree}
use Rattle.trees.specs.Node.{tree_at}
use Rattle.evidence.specs.Laws.{Extends_trans}
use Rattle.congruence.specs.Alike.{Shows}
use Rattle.congruence.proofs.Later.{held_later, tree_later, pair_later, shows_at}
use Rattle.congruence.proofs.CaseParts.{pair_turned, pair_through}
use Rattle.walking.proofs.LetPlaces.{shows_moved}
use Rattle.walking.proofs.RestPlaces.{last_later}
use Rattle.walking.proofs.matching.alike_lasts.Goals as goal

pub chain-requires-clause-left : goal.chain-requires-clause-left
chain-requires-clause-left c = pair_later c.args.draft.now c.alike_branch.new.draft c.in_ok-first.ensures.grows c.args.left c.args.inner c.requires.left

pub chain-requires-clause-right : goal.chain-requires-clause-right
chain-requires-clause-right c = pair_later c.args.draft.now c.alike_branch.new.draft c.in_ok-first.ensures.grows c.args.inner c.args.middle c.requires.middle

pub chain-requires-clause-first : goal.chain-requires-clause-first
chain-requires-clause-first c = shows_moved c.args.draft.now c.alike_branch.new.draft c.in_ok-first.ensures.grows c.in_ok-first.first c.args.left c.args.inner c.requires.left.left.held c.requires.left.right.held c.in_ok-first.ensures.shows

pub chain-requires-clause-second : goal.chain-requires-clause-second
chain-requires-clause-second c = shows_at c.args.draft.now c.alike_branch.new.draft c.in_ok-first.ensures.grows c.args.by c.args.inner c.args.middle c.requires.middle.left.held c.requires.middle.right.held c.requires.shows

pub alike_last-requires-clause-pair : goal.alike_last-requires-clause-pair
alike_last-requires-clause-pair c =
    pair_later c.args.draft.now c.chain.new.draft (Extends_trans _ c.alike_branch.new.draft _ c.in_ok-first.ensures.grows c.in_ok-there.ensures.grows) c.args.right c.args.middle c.requires.right

pub alike_last-requires-clause-is : goal.alike_last-requires-clause-is
alike_last-requires-clause-is c =
    last_later c.args.draft.now c.chain.new.draft (Extends_trans _ c.alike_branch.new.draft _ c.in_ok-first.ensures.grows c.in_ok-there.ensures.grows) c.args.right c.args.middle c.requires.right.left.held c.requires.right.right.held c.requires.right_is

pub chain-requires-2-clause-left : goal.chain-requires-2-clause-left
chain-requires-2-clause-left c =
    let d = c.args.draft.now in
    let d3 = c.alike_last.new.draft in
    let x = Extends_trans d c.chain.new.draft d3 (Extends_trans d c.alike_branch.new.draft c.chain.new.draft c.in_ok-first.ensures.grows c.in_ok-there.ensures.grows) c.in_ok-back.ensures.grows in
    pair_later d d3 x c.args.left c.args.middle (pair_through d c.args.left c.args.inner c.args.middle c.requires.left c.requires.middle)

pub chain-requires-2-clause-right : goal.chain-requires-2-clause-right
chain-requires-2-clause-right c =
    let d = c.args.draft.now in
    let d3 = c.alike_last.new.draft in
    let x = Extends_trans d c.chain.new.draft d3 (Extends_trans d c.alike_branch.new.draft c.chain.new.draft c.in_ok-first.ensures.grows c.in_ok-there.ensures.grows) c.in_ok-back.ensures.grows in
    pair_later d d3 x c.args.middle c.args.right (pair_turned d c.args.right c.args.middle c.requires.right)

pub chain-requires-2-clause-first : goal.chain-requires-2-clause-first
chain-requires-2-clause-first c =
    let d = c.args.draft.now in
    let d1 = c.alike_branch.new.draft in
    let d2 = c.chain.new.draft in
    let d3 = c.alike_last.new.draft in
    let x = c.in_ok-first.ensures.grows in
    let y = c.in_ok-there.ensures.grows in
    let xy = Extends_trans d d1 d2 x y in
    let hl = c.requires.left.left.held in
    let hm = c.requires.middle.right.held in
    let s = shows_moved d1 d2 y c.in_ok-there.there c.args.left c.args.middle (held_later d d1 x c.args.left hl) (held_later d d1 x c.args.middle hm) c.in_ok-there.ensures.shows in
    shows_at d2 d3 c.in_ok-back.ensures.grows c.in_ok-there.there c.args.left c.args.middle (held_later d d2 xy c.args.left hl) (held_later d d2 xy c.args.middle hm) s

pub returns-in_err-there-clause-grows : goal.returns-in_err-there-clause-grows
returns-in_err-there-clause-grows c = Extends_trans _ _ _ c.in_ok-first.ensures.grows c.in_err-there.ensures.grows

pub returns-in_err-back-clause-grows : goal.returns-in_err-back-clause-grows
returns-in_err-back-clause-grows c = Extends_trans _ _ _ (Extends_trans _ _ _ c.in_ok-first.ensures.grows c.in_ok-there.ensures.grows) c.in_err-back.ensures.grows

pub returns-in_err-made-clause-grows : goal.returns-in_err-made-clause-grows
returns-in_err-made-clause-grows c = Extends_trans _ _ _ (Extends_trans _ _ _ (Extends_trans _ _ _ c.in_ok-first.ensures.grows c.in_ok-there.ensures.grows) c.in_ok-back.ensures.grows) c.in_err-made.ensures.grows

pub returns-clause-grows : goal.returns-clause-grows
returns-clause-grows c = Extends_trans _ _ _ (Extends_trans _ _ _ (Extends_trans _ _ _ c.in_ok-first.ensures.grows c.in_ok-there.ensures.grows) c.in_ok-back.ensures.grows) c.in_ok-made.ensures.grows

pub returns-clause-shows : goal.returns-clause-shows
returns-clause-shows c =
    let d = c.args.draft.now in
    let d3 = c.alike_last.new.draft in
    let d4 = c.chain-2.new.draft in
    let x = Extends_trans d c.chain.new.draft d3 (Extends_trans d c.alike_branch.new.draft c.chain.new.draft c.in_ok-first.ensures.grows c.in_ok-there.ensures.grows) c.in_ok-back.ensures.grows in
    subst (λ (z : Tree). Shows d4 c.in_ok-made.made z (tree_at d.trees c.args.right)) (tree_later d d3 x c.args.left c.requires.left.left.held)
    (subst (λ (z : Tree). Shows d4 c.in_ok-made.made (tree_at d3.trees c.args.left) z) (tree_later d d3 x c.args.right c.requires.right.left.held) c.in_ok-made.ensures.shows)
