use Rattle.std.proofs.Common.{sym, subst}
use Rattle.std.proofs.lemmas.Result.{IfOk-weaker}
use Rattle.trees.specs.declared.TermId.{TermId}
use Rattle.trees.specs.Node.{tree_at, Holds}
use Rattle.trees.specs.Sorts.{WellSorted}
use Rattle.tasks.specs.typed_trees.instances.Instances.{IsInstance}
use Rattle.tasks.proofs.InstanceLaws.{is_instance, instance_fits}
use Rattle.tasks.proofs.typed_trees.instances.instance.Goals as goal

pub inst-requires-clause-fits : goal.inst-requires-clause-fits
inst-requires-clause-fits g c =
    let s = g.G.Grow.trees c.args.g.now in
    let w : (id : TermId) → Holds s id → WellSorted (tree_at s id) = rw c.store.ensures at c.laws.ensures.sorted in
    instance_fits (tree_at s c.args.body) (tree_at s c.args.by) c.requires.closed (w c.args.body c.requires.body_held) (w c.args.by c.requires.by_held)

pub returns-clause-keeps : goal.returns-clause-keeps
returns-clause-keeps g c =
    let s = g.G.Grow.trees c.args.g.now in
    let w : (id : TermId) → Holds s id → WellSorted (tree_at s id) = rw c.store.ensures at c.laws.ensures.sorted in
    let i = is_instance (tree_at s c.args.body) (tree_at s c.args.by) c.requires.closed (w c.args.body c.requires.body_held) in
    IfOk-weaker c.inst.result _ _ (λ id e. subst (IsInstance (tree_at s c.args.body) (tree_at s c.args.by)) (sym e) i) c.inst.ensures.tree
