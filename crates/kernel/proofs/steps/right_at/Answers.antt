use Rattle.std.proofs.Common.{take, refl}
use Rattle.tasks.specs.Meaning.{task_at}
use Rattle.kernel.proofs.Places.{right_moved}
use Rattle.kernel.proofs.steps.right_at.Goals as goal

pub returns : goal.returns
returns c = let s = c.args.store.now in right_moved (task_at s c.args.task.now) s c.args.steps.now c.args.i (take c.args.i c.args.steps.now) c.index-steps-i.result c.right_step.result refl c.index-steps-i.is c.requires.within c.right_step.ensures
