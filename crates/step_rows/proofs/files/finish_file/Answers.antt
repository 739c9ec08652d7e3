use Rattle.std.proofs.Common.{◌≡◌, sym, subst}
use Rattle.std.proofs.lemmas.Result.{IfOk-weaker}
use Rattle.tasks.specs.Task.{TaskTree}
use Rattle.tasks.specs.Meaning.{task_at}
use Rattle.tasks.proofs.Growth.{task_held_later, task_later}
use Rattle.step_writing.specs.kernel.Right.{Closes}
use Rattle.rules.specs.Meaning.{steps_at}
use Rattle.step_rows.proofs.files.finish_file.Goals as goal

pub returns-clause-task : goal.returns-clause-task
returns-clause-task c = task_held_later c.args.store.now c.finish.new.store c.finish.ensures.grows c.args.task.now c.requires.task

pub returns-clause-closes : goal.returns-clause-closes
returns-clause-closes c =
    let s = c.args.store.now in
    let s' = c.finish.new.store in
    let same : task_at s' c.args.task.now ≡ task_at s c.args.task.now = task_later s s' c.finish.ensures.grows c.args.task.now c.requires.task in
    IfOk-weaker c.finish.result _ _ (λ v k. subst (λ (t : TaskTree). Closes t (steps_at s' v.items)) (sym same) k) c.finish.ensures.closes
