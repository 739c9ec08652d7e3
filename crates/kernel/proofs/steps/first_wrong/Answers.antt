use Rattle.std.proofs.Common.{below_more, take}
use Rattle.tasks.specs.Meaning.{task_at}
use Rattle.rules.specs.Trees.{step_or}
use Rattle.rules.specs.Meaning.{steps_at}
use Rattle.rules.proofs.Sequents.{so}
use Rattle.kernel.specs.Right.{IsRight}
use Rattle.kernel.proofs.steps.first_wrong.Goals as goal

pub loop-i-preserved : goal.loop-i-preserved
loop-i-preserved c =
    let s = c.args.store.now in
    let steps = steps_at s c.args.steps.now in
    below_more (λ j. IsRight (task_at s c.args.task.now) (take j steps) (step_or steps j)) c.loop-i.i c.loop-i.invariant (so c.right_at.result c.right_at.ensures c.if-not-right_at.false)
