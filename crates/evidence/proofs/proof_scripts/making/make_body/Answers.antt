use Rattle.evidence.proofs.proof_scripts.Made.{forall_term, forall_formula, exists_term, exists_formula, made_formula}
use Rattle.evidence.proofs.proof_scripts.making.make_body.Goals as goal

pub returns-in-Forall-clause-formula : goal.returns-in-Forall-clause-formula
returns-in-Forall-clause-formula c =
    let d = c.args.draft.now in
    let q = c.args.quantifier in
    let e = rw c.store.ensures at c.in-Forall.ensures.tree in
    let o = c.instance.ensures in
    let t = forall_term d q c.in-Forall.field-0 c.in-Forall.body c.requires.formula c.args.term e c.requires.term in
    made_formula c.instance.result c.instance.new.g _ o.held o.keeps (λ id h i. forall_formula d q c.in-Forall.field-0 c.in-Forall.body c.requires.formula c.instance.new.g id o.grows.task h c.args.term e t i)

pub returns-in-Exists-clause-formula : goal.returns-in-Exists-clause-formula
returns-in-Exists-clause-formula c =
    let d = c.args.draft.now in
    let q = c.args.quantifier in
    let e = rw c.store.ensures at c.in-Exists.ensures.tree in
    let o = c.instance-in-Exists.ensures in
    let t = exists_term d q c.in-Exists.field-0 c.in-Exists.body c.requires.formula c.args.term e c.requires.term in
    made_formula c.instance-in-Exists.result c.instance-in-Exists.new.g _ o.held o.keeps (λ id h i. exists_formula d q c.in-Exists.field-0 c.in-Exists.body c.requires.formula c.instance-in-Exists.new.g id o.grows.task h c.args.term e t i)
