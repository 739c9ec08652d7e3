use Rattle.std.proofs.Common.{sym, subst}
use Rattle.std.proofs.lemmas.Result.{IfOk-weaker}
use Rattle.trees.specs.declared.TermId.{TermId}
use Rattle.trees.specs.Node.{tree_at, Holds}
use Rattle.trees.specs.Sorts.{WellSorted}
use Rattle.tasks.specs.typed_trees.instances.Instances.{IsClosedTerm}
use Rattle.tasks.proofs.InstanceLaws.{param_closed}
use Rattle.tasks.proofs.typed_trees.instances.parameter.Goals as goal

pub returns-clause-closed : goal.returns-clause-closed
returns-clause-closed g c =
    let s = g.G.Grow.trees c.args.g.now in
    let w : (id : TermId) → Holds s id → WellSorted (tree_at s id) = rw c.store.ensures at c.laws.ensures.sorted in
    let i = param_closed c.args.number (tree_at s c.args.ty) (w c.args.ty c.requires.held) c.requires.kind in
    IfOk-weaker c.add.result _ _ (λ id e. subst IsClosedTerm (sym e) i) c.add.ensures.tree
