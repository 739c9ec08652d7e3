use Rattle.std.proofs.Common.{◌≡◌, map}
use Rattle.std.proofs.lemmas.Result.{on_ok_weaker}
use Rattle.name_resolution.specs.Naming.{where_at}
use Rattle.open_types.proofs.Growing.{world_stays}
use Rattle.elab_groups.specs.members.Members.{signature_of}
use Rattle.elab_groups.specs.members.Sources.{member_at, members_at, signed_at}
use Rattle.elab_groups.proofs.members.SignaturesHeld.{signed_step}
use Rattle.elab_groups.proofs.members.signing.+sign_all.Goals as goal

pub returns-clause-signed : goal.returns-clause-signed
returns-clause-signed t c =
    let s = c.args.store.now in
    let s1 = c.sign.new.store in
    let g = c.sign.ensures.grows in
    let w = where_at s c.args.world.now in
    let same : where_at s1 c.args.world.now ≡ w = world_stays s s1 g c.args.world.now c.requires.world in
    let rest = map (signature_of w) (members_at c.in-Some.rest.now) in
    rw c.in-Some.ensures.cases.0 (on_ok_weaker c.sign_all.result
    (λ h. signed_step s s1 g c.args.list.now.items c.in_ok-one.one rest (map (signed_at c.sign_all.new.store) c.sign_all.new.list.items) (signature_of w (member_at c.in-Some.first.now)) c.requires.list c.in_ok-one.ensures.signed h)
    (rw (c.in_ok-push.ensures.items, same) at c.sign_all.ensures.signed))
