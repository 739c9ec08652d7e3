use Rattle.std.proofs.Common.{Some, refl, inr, ap}
use Rattle.std.proofs.lemmas.Result.{IfOk-weaker}
use Rattle.open_types.proofs.Growing.{first_held, type_grows}
use Rattle.open_types.proofs.types.+list_of.Goals as goal

pub returns-in_ok-list-in-Some-clause-list : goal.returns-in_ok-list-in-Some-clause-list
returns-in_ok-list-in-Some-clause-list t c =
    let h = first_held c.args.store.now c.args.ids.now c.in-Some.rest.now c.in-Some.first.now c.in-Some.ensures.cases.0 c.requires in
    let k = (type_grows _ _ c.list_of.ensures.grows c.in-Some.first.now h).kind in
    IfOk-weaker c.add.result _ _ (λ id e. rw e (refl, inr (ap Some k))) c.add.ensures.tree
