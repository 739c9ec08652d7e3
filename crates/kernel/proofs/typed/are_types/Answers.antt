use Rattle.std.proofs.Common.{below_more, refl}
use Rattle.trees.specs.Node.{tree_at}
use Rattle.tasks.specs.Valid.{IsTypeOver}
use Rattle.tasks.specs.Meaning.{task_at}
use Rattle.rules.specs.Meaning.{no_id}
use Rattle.rules.proofs.Sequents.{made_yes, made_no, not_so}
use Rattle.kernel.proofs.typed.are_types.Goals as goal

pub returns-then-not-is_type : goal.returns-then-not-is_type
returns-then-not-is_type c = made_no (IsTypeOver (task_at c.args.store.now c.args.task.now) 0) (tree_at c.args.store.now) c.args.types.now no_id c.loop-ty.ty-index c.loop-ty-test.true
    (not_so c.is_type.result c.is_type.ensures c.if-not-is_type.true)

pub returns : goal.returns
returns c = made_yes (IsTypeOver (task_at c.args.store.now c.args.task.now) 0) (tree_at c.args.store.now) c.args.types.now no_id c.loop-ty.ty-index c.loop-ty-test.false c.loop-ty.invariant

pub loop-ty-preserved : goal.loop-ty-preserved
loop-ty-preserved c = below_more _ _ c.loop-ty.invariant (c.if-not-is_type.ensures.0 refl)
