use Rattle.std.proofs.Common.{sym}
use Rattle.std.proofs.lemmas.List.Elements.{All-nil}
use Rattle.name_resolution.specs.Abstract.{alternatives_of}
use Rattle.open_types.proofs.Growing.{each_grows}
use Rattle.open_types.proofs.Noting.{next}
use Rattle.open_types.proofs.Branching.{side_is, as_later, alternatives_made}
use Rattle.open_types.proofs.patterns.walk_alternatives.Goals as goal

pub walk_grouped-requires : goal.walk_grouped-requires
walk_grouped-requires c = record { world = c.requires.world; ready = c.requires.ready; held = rw c.requires.none (All-nil _); wanted = c.requires.wanted; earlier = tt }

pub returns-clause-alternatives : goal.returns-clause-alternatives
returns-clause-alternatives c i =
    let s = c.args.store.now in
    let m = rw (c.requires.none, c.first_token-token.ensures, sym (side_is c.args.first.now)) at c.in_ok-made.ensures.matched in
    let g = c.walk_grouped.ensures.grows in
    let a = rw (c.as_slice.ensures.value, c.new-later.ensures) at c.in_ok-walk_later.ensures.later in
    let later = as_later c.args.ty c.requires.world c.requires.wanted g c.walk_grouped.new.locals.items _ _ (alternatives_of c.args.rest.now) m.bound.locals (next m.bound.noted) a in
    alternatives_made (record { held = m.held; sort = m.sort }) m.tree m.bound.held m.bound.locals m.bound.noted c.walk_later.ensures.grows later (each_grows _ _ c.walk_later.ensures.grows c.walk_grouped.new.locals.items m.bound.held)
