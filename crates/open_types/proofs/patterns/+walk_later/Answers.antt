use Rattle.std.proofs.Common.{ℕ, map, length, ap, arith}
use Rattle.std.proofs.lemmas.Result.{on_ok_weaker}
use Rattle.name_resolution.specs.Abstract.{alternatives_of}
use Rattle.open_types.specs.Drafts.{local_at}
use Rattle.open_types.proofs.Growing.{each_stays, world_grows, each_grows, type_grows}
use Rattle.open_types.proofs.Noting.{next, nothing_noted, no_elements}
use Rattle.open_types.proofs.Branching.{later_none, later_more, later_pushed, as_later}
use Rattle.open_types.proofs.patterns.+walk_later.Goals as goal

pub returns-in_default-clause-later : goal.returns-in_default-clause-later
returns-in_default-clause-later t c = rw (no_elements c.args.list.now c.in_default.ensures.cases) (later_none _ c.args.later.now c.requires.held (nothing_noted c.args.store.now c.args.draft.now c.requires.ready))

pub walk_later-requires : goal.walk_later-requires
walk_later-requires t c =
    let g = c.walk_one_later.ensures.grows in
    let a = c.in_ok-made.ensures.later in
    (omega (arith, ap length c.in-Some.ensures.cases.0), (world_grows _ _ g c.args.world.now c.requires.world, (a.noted.ready, (type_grows _ _ g c.args.ty c.requires.wanted, (each_grows _ _ g c.args.first.now c.requires.first, rw c.in_ok-push.ensures.ok (later_pushed c.args.later.now c.in_ok-made.made g c.requires.held a.held))))))

pub returns-clause-later : goal.returns-clause-later
returns-clause-later t c =
    let n : ℕ = length c.args.draft.now.takers in
    let g = c.walk_one_later.ensures.grows in
    let a = rw c.as_slice.ensures at c.in_ok-made.ensures.later in
    let b = rw c.in_ok-push.ensures.ok at c.walk_later.ensures.later in
    rw c.in-Some.ensures.cases.0 (on_ok_weaker c.walk_later.result (λ h. later_more c.in_ok-made.made g c.requires.held a (as_later c.args.ty c.requires.world c.requires.wanted g c.args.first.now (map (local_at c.args.store.now) c.args.first.now) _ (alternatives_of c.in-Some.rest.now) (each_stays _ _ g c.args.first.now c.requires.first) (next a.noted) h)) b)
