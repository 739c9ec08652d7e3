use Rattle.std.proofs.Common.{sym, subst}
use Rattle.tasks.specs.Meaning.{task_at}
use Rattle.kernel.specs.Right.{last_starts}
use Rattle.rules.specs.Meaning.{steps_at}
use Rattle.step_reading.proofs.Progress.{no_true}
use Rattle.step_reading.proofs.ended.last_steps.Goals as goal

pub returns-then-ends_in_start-clause-starts : goal.returns-then-ends_in_start-clause-starts
returns-then-ends_in_start-clause-starts c =
    let s = c.args.store.now in
    subst (λ l. last_starts (task_at s c.args.task.now) (steps_at s l)) c.deref.ensures.value (c.ends_in_start.ensures.0 c.if-ends_in_start.true)

pub returns-clause-fault : goal.returns-clause-fault
returns-clause-fault c =
    let s = c.args.store.now in
    (c.in_ok-line.ensures, λ starts. no_true (c.if-ends_in_start.ensures.1 (subst (λ l. last_starts (task_at s c.args.task.now) (steps_at s l)) (sym c.deref.ensures.value) starts)))
