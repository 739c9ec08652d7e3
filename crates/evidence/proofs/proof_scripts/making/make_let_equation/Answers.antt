use Rattle.evidence.proofs.proof_scripts.Made.{value_closed, let_alike}
use Rattle.evidence.proofs.proof_scripts.making.make_let_equation.Goals as goal

pub instance-requires-clause-closed : goal.instance-requires-clause-closed
instance-requires-clause-closed c =
    let e = rw c.store.ensures at c.in-Let.ensures.tree in
    value_closed c.args.draft.now c.args.whole c.in-Let.value c.in-Let.body c.requires.whole e

pub make_alike-requires : goal.make_alike-requires
make_alike-requires c =
    let e = rw c.store.ensures at c.in-Let.ensures.tree in
    let o = c.in_ok-inner-in-Let.ensures in
    record { alike = let_alike c.args.draft.now c.args.whole c.in-Let.value c.in-Let.body c.requires.whole e c.instance.new.g o.grows c.in_ok-inner-in-Let.inner o.held o.tree o.keeps }
