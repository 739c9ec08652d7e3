use Rattle.evidence.proofs.proof_scripts.Made.{right_closed, replaced_formula, made_formula}
use Rattle.evidence.proofs.proof_scripts.making.make_replaced.Goals as goal

pub instance-requires-clause-closed : goal.instance-requires-clause-closed
instance-requires-clause-closed c =
    let d = c.args.draft.now in
    let e = rw c.store.ensures at c.in-Eq.ensures.tree in
    right_closed d c.args.equation c.in-Eq.field-0 c.in-Eq.b c.args.template c.requires.equation e c.requires.template

pub returns-clause-formula : goal.returns-clause-formula
returns-clause-formula c =
    let d = c.args.draft.now in
    let e = rw c.store.ensures at c.in-Eq.ensures.tree in
    let o = c.instance.ensures in
    made_formula c.instance.result c.instance.new.g _ o.held o.keeps (λ id h i. replaced_formula d c.args.equation c.in-Eq.field-0 c.in-Eq.b c.args.template c.requires.equation e c.requires.template c.instance.new.g id o.grows.task h i)
