use Rattle.std.proofs.Common.{◌+◌, ap, refl}
use Rattle.trees.specs.Tree.{HExists}
use Rattle.trees.specs.Node.{tree_at}
use Rattle.trees.proofs.Instances.{two_instance}
use Rattle.tasks.specs.Equations.{bound_variables}
use Rattle.tasks.specs.Inversion.{given_by}
use Rattle.tasks.specs.Meaning.{trees_at}
use Rattle.rules.proofs.Sequents.{so}
use Rattle.rules.proofs.fact_rules.parts.+is_given.Goals as goal

pub returns-else-not-is_put : goal.returns-else-not-is_put
returns-else-not-is_put t c =
    let s = c.args.store.now in
    let n = c.args.under in
    let xs = bound_variables (trees_at s c.args.args.now) in
    two_instance (trees_at s c.args.types.now) HExists HExists (tree_at s c.in-Forall.ty) (given_by (n + 1) xs (tree_at s c.in-Forall.body)) (tree_at s c.in-Exists.a) (tree_at s c.in-Exists.b)
    (given_by n xs (tree_at s c.args.clause)) (tree_at s c.args.made) c.is_given.result (ap (given_by n xs) c.in-Forall.ensures.tree) c.in-Exists.ensures.tree refl
    (so c.is_put.result c.is_put.ensures c.if-not-is_put.false) c.is_given.ensures
