use Rattle.std.proofs.Common.{refl}
use Rattle.walking.proofs.Binders.{made_link}
use Rattle.congruence.proofs.CaseParts.{pair_through}
use Rattle.walking.proofs.ArgumentPlaces.{one_pair}
use Rattle.tasks.proofs.outside.Passed.{no_value}
use Rattle.walking.proofs.matching.link_case.Goals as goal

pub chain-requires-clause-right : goal.chain-requires-clause-right
chain-requires-clause-right c = one_pair c.args.draft.now c.args.env.now c.args.mixed.left c.args.fresh c.args.made c.requires.pair.right c.requires.made

pub chain-requires-clause-second : goal.chain-requires-clause-second
chain-requires-clause-second c = c.requires.made.shows

pub returns-clause-link : goal.returns-clause-link
returns-clause-link c =
    let d = c.args.draft.now in
    let m = c.args.made in
    let p = pair_through d c.args.left c.args.mixed.left m.right c.requires.pair (one_pair d c.args.env.now c.args.mixed.left c.args.fresh m c.requires.pair.right c.requires.made) in
    made_link d c.chain.new.draft c.in_ok-alike.ensures.grows c.args.env.now c.args.left c.args.fresh _ (record { image = m.image; right = m.right; alike = c.in_ok-alike.alike }) c.requires.made.place refl p c.in_ok-alike.ensures.shows

pub chain-requires-clause-left : goal.chain-requires-clause-left
chain-requires-clause-left c = c.requires.pair

pub chain-requires-clause-first : goal.chain-requires-clause-first
chain-requires-clause-first c = c.requires.shows

pub returns-in_err-alike-clause-link : goal.returns-in_err-alike-clause-link
returns-in_err-alike-clause-link c = no_value _ _ c.from_residual.result c.from_residual.ensures.1

pub returns-in_err-alike-clause-grows : goal.returns-in_err-alike-clause-grows
returns-in_err-alike-clause-grows c = c.in_err-alike.ensures.grows

pub returns-clause-grows : goal.returns-clause-grows
returns-clause-grows c = c.in_ok-alike.ensures.grows
