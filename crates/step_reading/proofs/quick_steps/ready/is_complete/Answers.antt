use Rattle.tasks.specs.trees.Node.{tree_at}
use Rattle.tasks.specs.Meaning.{task_at}
use Rattle.kernel.proofs.Complete.{complete_closed}
use Rattle.step_reading.proofs.quick_steps.ready.is_complete.Goals as goal

pub returns-then-loose-eq0 : goal.returns-then-loose-eq0
returns-then-loose-eq0 c =
    let s = c.args.store.now in
    (complete_closed (task_at s c.args.task.now) (tree_at s c.args.e) c.loose.result c.is_ground.result c.requires.open c.loose.ensures c.if-loose-eq0.true c.is_ground.ensures).0
