use Rattle.std.proofs.Common.{sym}
use Rattle.std.proofs.lemmas.List.Elements.{All-nil}
use Rattle.open_types.proofs.Branching.{side_is, later_made}
use Rattle.open_types.proofs.patterns.walk_one_later.Goals as goal

pub walk_grouped-requires : goal.walk_grouped-requires
walk_grouped-requires c = record { world = c.requires.world; ready = c.requires.ready; held = rw c.new-own.ensures.items (All-nil _); wanted = c.requires.wanted; earlier = c.requires.first }

pub returns-clause-later : goal.returns-clause-later
returns-clause-later c =
    let s1 = c.walk_grouped.new.store in
    let m = rw (c.new-own.ensures.items, c.first_token-token.ensures, sym (side_is c.args.list.now)) at c.in_ok-pattern.ensures.matched in
    let places = rw (c.new-places.ensures, c.as_slice.ensures.value) at c.in_ok-push_places.ensures s1 in
    later_made c.args.first.now c.walk_grouped.ensures.grows c.requires.first m places
