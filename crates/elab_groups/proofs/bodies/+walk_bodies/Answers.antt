use Rattle.std.proofs.Common.{◌≡◌, ◌++◌, ◌∷◌, [], List, map, length, sym, ap, subst, arith}
use Rattle.std.proofs.lemmas.Result.{on_ok_weaker}
use Rattle.name_resolution.specs.Naming.{where_at}
use Rattle.name_resolution.specs.Where.{Where}
use Rattle.open_types.specs.Pieces.{NotedTree, unknown_after}
use Rattle.open_types.proofs.Growing.{world_stays, world_grows}
use Rattle.open_types.proofs.Noting.{next, no_elements}
use Rattle.elab_groups.proofs.parts.Putting.{all_rest, held_more}
use Rattle.elab_groups.specs.members.Members.{SignatureTree}
use Rattle.elab_groups.specs.members.Sources.{member_at, members_at, signed_at, SignedHeld, AreResolved}
use Rattle.elab_groups.proofs.members.SignaturesHeld.{all_signed_stay, all_signed_grow}
use Rattle.elab_groups.specs.Groups.{member_piece, member_pieces}
use Rattle.elab_groups.specs.Bodies.{AreBodiesWalked}
use Rattle.elab_groups.proofs.BodiesWalked.{none_walked, unsigned_walked, walked_first, pieces_same}
use Rattle.elab_groups.proofs.bodies.+walk_bodies.Goals as goal

pub returns-in_default-clause-walked : goal.returns-in_default-clause-walked
returns-in_default-clause-walked t c =
    let s = c.args.store.now in
    none_walked (where_at s c.args.world.now) (length c.args.draft.now.takers) (map (signed_at s) c.args.signed.now) s c.args.draft.now c.args.ids.now.items (members_at c.args.members.now) c.args.signed.now
    (ap members_at (no_elements c.args.members.now c.in_default.ensures.cases)) c.requires.ready c.requires.ids

pub returns-in_default-split_first-clause-walked : goal.returns-in_default-split_first-clause-walked
returns-in_default-split_first-clause-walked t c =
    let s = c.args.store.now in
    let e : c.args.signed.now ≡ [] = no_elements c.args.signed.now c.in_default-split_first.ensures.cases in
    unsigned_walked (where_at s c.args.world.now) (length c.args.draft.now.takers) (map (signed_at s) c.args.signed.now) s c.args.draft.now c.args.ids.now.items (members_at c.args.members.now) c.args.signed.now
    (ap (map (signed_at s)) e) e c.requires.ready c.requires.ids

pub walk_body-requires-clause-resolved : goal.walk_body-requires-clause-resolved
walk_body-requires-clause-resolved t c = let r = rw (c.in-Some.ensures.cases.0, c.in-Some-split_first.ensures.cases.0) at c.requires.resolved in r.0

pub walk_bodies-requires : goal.walk_bodies-requires
walk_bodies-requires t c =
    let s = c.args.store.now in
    let s1 = c.walk_body.new.store in
    let g = c.walk_body.ensures.grows in
    let others = c.in-Some-split_first.others.now in
    let ms = members_at c.in-Some.rest.now in
    let w = where_at s c.args.world.now in
    let one = c.in_ok-id.ensures.walked in
    let rest = all_rest (SignedHeld s) c.args.signed.now c.in-Some-split_first.one.now others c.in-Some-split_first.ensures.cases.0 c.requires.signed in
    let both = rw (c.in-Some.ensures.cases.0, c.in-Some-split_first.ensures.cases.0) at c.requires.resolved in
    let resolved : AreResolved (where_at s1 c.args.world.now) ms (map (signed_at s1) others) =
    subst (λ (v : Where). AreResolved v ms (map (signed_at s1) others)) (sym (world_stays s s1 g c.args.world.now c.requires.world))
    (subst (λ (gs : List SignatureTree). AreResolved w ms gs) (sym (all_signed_stay s s1 g others rest)) both.1) in (
      omega (arith, ap length c.in-Some.ensures.cases.0),
      (
        world_grows s s1 g c.args.world.now c.requires.world,
        (
          one.noted.ready,
          (
            rw c.in_ok-push.ensures.items (held_more s s1 g c.args.ids.now.items c.in_ok-id.id c.requires.ids one.held),
            (all_signed_grow s s1 g others rest, resolved),
          ),
        ),
      ),
    )

pub returns-clause-walked : goal.returns-clause-walked
returns-clause-walked t c =
    let s = c.args.store.now in
    let s1 = c.walk_body.new.store in
    let s2 = c.walk_bodies.new.store in
    let d = c.args.draft.now in
    let d1 = c.walk_body.new.draft in
    let d2 = c.walk_bodies.new.draft in
    let g = c.walk_body.ensures.grows in
    let first = c.in-Some-split_first.one.now in
    let others = c.in-Some-split_first.others.now in
    let m = member_at c.in-Some.first.now in
    let ms = members_at c.in-Some.rest.now in
    let w = where_at s c.args.world.now in
    let one = c.in_ok-id.ensures.walked in
    let rest = all_rest (SignedHeld s) c.args.signed.now first others c.in-Some-split_first.ensures.cases.0 c.requires.signed in
    let p : NotedTree = member_piece w (length d.takers) m (signed_at s first) in
    let same : member_pieces (where_at s1 c.args.world.now) (length d1.takers) ms (map (signed_at s1) others) ≡ member_pieces w (unknown_after (length d.takers) p) ms (map (signed_at s) others) =
    pieces_same w (where_at s1 c.args.world.now) (unknown_after (length d.takers) p) (length d1.takers) ms (map (signed_at s) others) (map (signed_at s1) others)
    (world_stays s s1 g c.args.world.now c.requires.world) (next one.noted) (all_signed_stay s s1 g others rest) in
    let ids = c.args.ids.now.items ++ c.in_ok-id.id ∷ [] in
    rw (c.in-Some.ensures.cases.0, c.in-Some-split_first.ensures.cases.0) (on_ok_weaker c.walk_bodies.result
    (λ h. walked_first {ids = c.args.ids.now.items} g c.requires.ids m ms first others one c.in_ok-id.ensures.sort
    (subst (λ (ps : List NotedTree). AreBodiesWalked ps ms others s1 d1 ids s2 d2 c.walk_bodies.new.ids.items) same h))
    (rw c.in_ok-push.ensures.items at c.walk_bodies.ensures.walked))
