use Rattle.std.proofs.Common.{refl, ◌∙◌}
use Rattle.std.proofs.lemmas.Result.{on_ok_weaker}
use Rattle.elab_groups.proofs.members.SignaturesHeld.{typed_more}
use Rattle.elab_groups.proofs.members.signing.push_member.Goals as goal

pub returns-clause-typed : goal.returns-clause-typed
returns-clause-typed c =
    on_ok_weaker c.push.result
    (λ q held all. typed_more c.args.store.now c.args.sig.now.symbols c.push.new.self _ c.args.signed.now (c.in_ok-from_slice-2.ensures ∙ c.as_slice-3.ensures) refl q held all) c.push.ensures.ok
