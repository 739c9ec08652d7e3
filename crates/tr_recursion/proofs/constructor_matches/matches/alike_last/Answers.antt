use Rattle.evidence.specs.Laws.{Extends_trans}
use Rattle.congruence.proofs.Later.{held_later, pair_later}
use Rattle.congruence.proofs.CaseParts.{pair_turned, pair_through}
use Rattle.tr_recursion.proofs.constructor_matches.Moved.{shows_on, shows_there, shows_before}
use Rattle.tr_recursion.proofs.constructor_matches.Asked.{opened_later, here_later, last_is}
use Rattle.tr_recursion.proofs.constructor_matches.matches.alike_last.Goals as goal

pub alike_branch-requires-clause-pair : goal.alike_branch-requires-clause-pair
alike_branch-requires-clause-pair c = c.requires.opened.inner

pub alike_branch-requires-clause-is : goal.alike_branch-requires-clause-is
alike_branch-requires-clause-is c = last_is c.args.draft.now c.args.whole c.args.scrutinee c.args.first c.args.opened c.requires.opened c.requires.last

pub alike_fields-requires-clause-right_held : goal.alike_fields-requires-clause-right_held
alike_fields-requires-clause-right_held c = held_later c.args.draft.now c.alike_branch.new.draft c.in_ok-one.ensures.grows c.args.right c.requires.pair.right.held

pub alike_fields-requires-clause-opened : goal.alike_fields-requires-clause-opened
alike_fields-requires-clause-opened c = opened_later c.args.draft.now c.alike_branch.new.draft c.in_ok-one.ensures.grows c.args.whole c.args.scrutinee c.args.first c.args.opened c.requires.opened

pub alike_fields-requires-clause-here : goal.alike_fields-requires-clause-here
alike_fields-requires-clause-here c = here_later c.args.draft.now c.alike_branch.new.draft c.in_ok-one.ensures.grows c.args.whole c.args.scrutinee c.args.first c.requires.opened.asked c.args.right c.requires.pair.right.held c.requires.here

pub chain-requires-clause-left : goal.chain-requires-clause-left
chain-requires-clause-left c = pair_later c.args.draft.now c.alike_fields.new.draft (Extends_trans _ _ _ c.in_ok-one.ensures.grows c.in_ok-two.ensures.grows) c.args.whole c.args.opened.inner c.requires.opened.inner

pub chain-requires-clause-right : goal.chain-requires-clause-right
chain-requires-clause-right c =
    let d = c.args.draft.now in
    pair_later d c.alike_fields.new.draft (Extends_trans _ _ _ c.in_ok-one.ensures.grows c.in_ok-two.ensures.grows) c.args.opened.inner c.args.right (pair_through d c.args.opened.inner c.args.whole c.args.right (pair_turned d c.args.whole c.args.opened.inner c.requires.opened.inner) c.requires.pair)

pub chain-requires-clause-first : goal.chain-requires-clause-first
chain-requires-clause-first c =
    let p = c.requires.opened.inner in
    shows_on c.args.draft.now c.alike_branch.new.draft c.alike_fields.new.draft (Extends_trans _ _ _ c.in_ok-one.ensures.grows c.in_ok-two.ensures.grows) c.in_ok-two.ensures.grows c.in_ok-one.one c.args.whole c.args.opened.inner p.left.held p.right.held c.in_ok-one.ensures.shows

pub chain-requires-clause-second : goal.chain-requires-clause-second
chain-requires-clause-second c =
    let d = c.args.draft.now in
    let d1 = c.alike_branch.new.draft in
    let x = c.in_ok-one.ensures.grows in
    let i = pair_later d d1 x c.args.whole c.args.opened.inner c.requires.opened.inner in
    let r = pair_later d d1 x c.args.whole c.args.right c.requires.pair in
    shows_there d1 c.alike_fields.new.draft c.alike_fields.new.draft c.in_ok-two.ensures.grows c.in_ok-two.two c.args.opened.inner c.args.right i.right.held r.right.held c.in_ok-two.ensures.shows

pub returns-clause-shows : goal.returns-clause-shows
returns-clause-shows c =
    shows_before c.args.draft.now c.alike_fields.new.draft c.chain.new.draft (Extends_trans _ _ _ c.in_ok-one.ensures.grows c.in_ok-two.ensures.grows) c.in_ok-made.made c.args.whole c.args.right c.requires.pair.left.held c.requires.pair.right.held c.in_ok-made.ensures.shows

pub returns-in_err-two-clause-grows : goal.returns-in_err-two-clause-grows
returns-in_err-two-clause-grows c = Extends_trans _ _ _ c.in_ok-one.ensures.grows c.alike_fields.ensures.grows

pub returns-in_err-made-clause-grows : goal.returns-in_err-made-clause-grows
returns-in_err-made-clause-grows c = Extends_trans _ _ _ (Extends_trans _ _ _ c.in_ok-one.ensures.grows c.in_ok-two.ensures.grows) c.in_err-made.ensures.grows

pub returns-clause-grows : goal.returns-clause-grows
returns-clause-grows c = Extends_trans _ _ _ (Extends_trans _ _ _ c.in_ok-one.ensures.grows c.in_ok-two.ensures.grows) c.in_ok-made.ensures.grows
