use Rattle.std.proofs.lemmas.Result.{on_ok_weaker}
use Rattle.elab_groups.proofs.parts.Putting.{all_first, all_rest}
use Rattle.elab_groups.specs.members.Sources.{SignedHeld}
use Rattle.elab_groups.proofs.members.signing.+push_entries.Goals as goal

pub returns-clause-typed : goal.returns-clause-typed
returns-clause-typed t c =
    let s = c.args.store.now in
    let its = c.args.signed.now in
    let one = c.in-Some-split_first.one.now in
    let others = c.in-Some-split_first.others.now in
    let e = c.in-Some-split_first.ensures.cases.0 in
    on_ok_weaker c.push_entries.result
    (λ k held all. k (all_rest (SignedHeld s) its one others e held) (c.in_ok-push_member.ensures.typed (all_first (SignedHeld s) its one others e held) all)) c.push_entries.ensures.typed
