use Rattle.std.proofs.Common.{List, ap, length, refl}
use Rattle.trees.specs.declared.TermId.{TermId}
use Rattle.trees.specs.Tree.{HForall}
use Rattle.trees.specs.Node.{tree_at}
use Rattle.trees.proofs.Instances.{two_instance}
use Rattle.tasks.specs.Equations.{for_all}
use Rattle.tasks.specs.Meaning.{trees_at}
use Rattle.rules.proofs.Sequents.{so}
use Rattle.rules.specs.fact_rules.Inversions.{body_of}
use Rattle.rules.proofs.fact_rules.inversion.+is_quantified.Goals as goal

pub returns-else-not-is_instance : goal.returns-else-not-is_instance
returns-else-not-is_instance t c =
    let s = c.args.store.now in
    let v = c.args.v.now in
    let body = body_of v.symbol (length v.types.now) (trees_at s v.args.now) (trees_at s v.clauses.now) in
    two_instance (trees_at s v.types.now) HForall HForall (tree_at s c.in-Some.ty.now) (for_all (trees_at s c.in-Some.rest.now) body) (tree_at s c.in-Forall.a) (tree_at s c.in-Forall.b)
    (for_all (trees_at s c.args.args.now) body) (tree_at s c.args.made) c.is_quantified.result (ap (λ (l : List TermId). for_all (trees_at s l) body) c.in-Some.ensures.cases.0) c.in-Forall.ensures.tree refl
    (so c.is_instance.result c.is_instance.ensures c.if-not-is_instance.false) c.is_quantified.ensures
