use Rattle.evidence.specs.Laws.{Extends_trans}
use Rattle.congruence.proofs.Later.{pair_later}
use Rattle.tr_recursion.proofs.branch_steps.Sides.{whole_pair, whole_chosen, first_shown, second_shown, both_shown}
use Rattle.tr_recursion.proofs.branch_steps.equation_instances.alike_by_match.Goals as goal

pub alike_chosen-requires-clause-pair : goal.alike_chosen-requires-clause-pair
alike_chosen-requires-clause-pair c = whole_pair c.args.draft.now c.unfold_closed.new.draft c.in_ok-one.ensures.grows c.args.left c.args.right c.in_ok-one.one.whole c.requires.pair c.in_ok-one.ensures.pair

pub alike_chosen-requires-clause-chosen : goal.alike_chosen-requires-clause-chosen
alike_chosen-requires-clause-chosen c =
    whole_chosen c.args.draft.now c.unfold_closed.new.draft c.in_ok-one.ensures.grows c.args.left c.args.right c.in_ok-one.one.whole c.requires.pair c.in_ok-one.ensures.pair c.args.def.symbol c.in_ok-one.ensures.whole c.requires.chosen

pub chain-requires-clause-left : goal.chain-requires-clause-left
chain-requires-clause-left c = pair_later c.unfold_closed.new.draft c.alike_chosen.new.draft c.in_ok-two.ensures.grows c.args.left c.in_ok-one.one.whole c.in_ok-one.ensures.pair

pub chain-requires-clause-right : goal.chain-requires-clause-right
chain-requires-clause-right c =
    let d1 = c.unfold_closed.new.draft in
    pair_later d1 c.alike_chosen.new.draft c.in_ok-two.ensures.grows c.in_ok-one.one.whole c.args.right
    (whole_pair c.args.draft.now d1 c.in_ok-one.ensures.grows c.args.left c.args.right c.in_ok-one.one.whole c.requires.pair c.in_ok-one.ensures.pair)

pub chain-requires-clause-first : goal.chain-requires-clause-first
chain-requires-clause-first c =
    first_shown c.args.draft.now c.unfold_closed.new.draft c.in_ok-one.ensures.grows c.args.left c.args.right c.in_ok-one.one.whole c.requires.pair c.in_ok-one.ensures.pair c.alike_chosen.new.draft c.in_ok-two.ensures.grows c.in_ok-one.one.alike c.in_ok-one.ensures.shows

pub chain-requires-clause-second : goal.chain-requires-clause-second
chain-requires-clause-second c =
    second_shown c.args.draft.now c.unfold_closed.new.draft c.in_ok-one.ensures.grows c.args.left c.args.right c.in_ok-one.one.whole c.requires.pair c.in_ok-one.ensures.pair c.alike_chosen.new.draft c.in_ok-two.ensures.grows c.in_ok-two.two c.in_ok-two.ensures.shows

pub returns-clause-shows : goal.returns-clause-shows
returns-clause-shows c =
    both_shown c.args.draft.now c.unfold_closed.new.draft c.in_ok-one.ensures.grows c.args.left c.args.right c.in_ok-one.one.whole c.requires.pair c.in_ok-one.ensures.pair c.alike_chosen.new.draft c.chain.new.draft c.in_ok-two.ensures.grows c.in_ok-made.made c.in_ok-made.ensures.shows

pub returns-in_err-two-clause-grows : goal.returns-in_err-two-clause-grows
returns-in_err-two-clause-grows c = Extends_trans _ _ _ c.in_ok-one.ensures.grows c.alike_chosen.ensures.grows

pub returns-in_err-made-clause-grows : goal.returns-in_err-made-clause-grows
returns-in_err-made-clause-grows c = Extends_trans _ _ _ (Extends_trans _ _ _ c.in_ok-one.ensures.grows c.in_ok-two.ensures.grows) c.chain.ensures.grows

pub returns-clause-grows : goal.returns-clause-grows
returns-clause-grows c = Extends_trans _ _ _ (Extends_trans _ _ _ c.in_ok-one.ensures.grows c.in_ok-two.ensures.grows) c.in_ok-made.ensures.grows
