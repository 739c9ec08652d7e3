use Rattle.std.proofs.Common.{Some, refl, inr, ap}
use Rattle.std.proofs.lemmas.Result.{IfOk-weaker}
use Rattle.open_types.proofs.Fielding.{first_term, term_grows}
use Rattle.open_types.proofs.records.+list_of_terms.Goals as goal

pub returns-in_ok-list-in-Some-clause-list : goal.returns-in_ok-list-in-Some-clause-list
returns-in_ok-list-in-Some-clause-list t c =
    let h = first_term c.args.store.now c.args.ids.now c.in-Some.rest.now c.in-Some.first.now c.in-Some.ensures.cases.0 c.requires in
    let k = (term_grows _ _ c.list_of_terms.ensures.grows c.in-Some.first.now h).1 in
    IfOk-weaker c.add.result _ _ (λ id e. rw e (refl, inr (ap Some k))) c.add.ensures.tree
