use Rattle.std.proofs.Common.{◌≡◌, List, ℕ, subst}
use Rattle.std.proofs.lemmas.Result.{IfErr-weaker}
use Rattle.tasks.specs.Task.{TaskTree}
use Rattle.tasks.specs.Meaning.{task_at}
use Rattle.tasks.proofs.Growth.{task_held_later, task_later}
use Rattle.kernel.specs.Right.{last_starts, Closes}
use Rattle.rules.specs.declared.rule.Step.{Step}
use Rattle.rules.specs.Meaning.{steps_at, StepsHeld}
use Rattle.step_reading.specs.Words.{lines_of}
use Rattle.step_reading.specs.Lines.{StepsOf}
use Rattle.step_reading.specs.Reading.{reading_at}
use Rattle.step_reading.specs.Fed.{IsFed, IsUnfinished}
use Rattle.step_reading.proofs.Progress.{steps_right}
use Rattle.step_reading.proofs.Fed.{if_items, file_read, file_fault}
use Rattle.step_reading.proofs.feeding.StepReader.finish.Goals as goal

pub last_steps-requires-clause-task : goal.last_steps-requires-clause-task
last_steps-requires-clause-task c = task_held_later c.args.store.now c.all_lines.new.store c.in-Ok.ensures.grows c.args.task.now c.requires.task

pub last_steps-requires-clause-steps : goal.last_steps-requires-clause-steps
last_steps-requires-clause-steps c = (c.in-Ok.ensures.read c.requires.fed.0 c.requires.fed.1).held.steps

pub returns-in-Ok-clause-steps : goal.returns-in-Ok-clause-steps
returns-in-Ok-clause-steps c =
    let s = c.args.store.now in
    let s' = c.all_lines.new.store in
    let task = c.args.task.now in
    let names = c.args.names.now in
    let l = c.in-Ok.lines in
    let same : task_at s' task ≡ task_at s task = task_later s s' c.in-Ok.ensures.grows task c.requires.task in
    if_items c.last_steps.result (λ v. v.items) l.read.steps.items (last_starts (task_at s' task) (steps_at s' l.read.steps.items)) (λ (x : List Step). (bytes : List ℕ) → IsFed s task names bytes c.args.self → StepsOf (task_at s task) names c.args.self.tallest bytes (steps_at s' x))
    c.last_steps.ensures.steps c.last_steps.ensures.starts
    (λ starts bytes h. file_read (task_at s task) names c.args.self.tallest s' bytes l (c.in-Ok.ensures.read bytes h) (subst (λ (u : TaskTree). last_starts u (steps_at s' l.read.steps.items)) same starts))

pub returns-in-Ok-clause-closes : goal.returns-in-Ok-clause-closes
returns-in-Ok-clause-closes c =
    let s = c.args.store.now in
    let s' = c.all_lines.new.store in
    let task = c.args.task.now in
    let l = c.in-Ok.lines in
    let h = c.in-Ok.ensures.read c.requires.fed.0 c.requires.fed.1 in
    let same : task_at s' task ≡ task_at s task = task_later s s' c.in-Ok.ensures.grows task c.requires.task in
    if_items c.last_steps.result (λ v. v.items) l.read.steps.items (last_starts (task_at s' task) (steps_at s' l.read.steps.items)) (λ (x : List Step). Closes (task_at s task) (steps_at s' x))
    c.last_steps.ensures.steps c.last_steps.ensures.starts
    (λ starts. record {
      right = steps_right (task_at s task) c.args.names.now c.args.self.tallest (lines_of c.requires.fed.0) (reading_at s' l.read) h.made;
      starts = subst (λ (u : TaskTree). last_starts u (steps_at s' l.read.steps.items)) same starts;
    })

pub returns-in-Ok-clause-held : goal.returns-in-Ok-clause-held
returns-in-Ok-clause-held c =
    let s' = c.all_lines.new.store in
    let l = c.in-Ok.lines in
    if_items c.last_steps.result (λ v. v.items) l.read.steps.items (last_starts (task_at s' c.args.task.now) (steps_at s' l.read.steps.items)) (λ (x : List Step). StepsHeld s' x)
    c.last_steps.ensures.steps c.last_steps.ensures.starts
    (λ _. (c.in-Ok.ensures.read c.requires.fed.0 c.requires.fed.1).held.steps)

pub returns-in-Ok-clause-fault : goal.returns-in-Ok-clause-fault
returns-in-Ok-clause-fault c =
    let s = c.args.store.now in
    let s' = c.all_lines.new.store in
    let task = c.args.task.now in
    let l = c.in-Ok.lines in
    let same : task_at s' task ≡ task_at s task = task_later s s' c.in-Ok.ensures.grows task c.requires.task in
    IfErr-weaker c.last_steps.result _ _
    (λ e u bytes h. file_fault (task_at s task) c.args.names.now c.args.self.tallest s' bytes l (c.in-Ok.ensures.read bytes h) e (subst (λ (v : TaskTree). IsUnfinished v (steps_at s' l.read.steps.items) l.ended e) same u))
    c.last_steps.ensures.fault

pub returns-in-Err-clause-fault : goal.returns-in-Err-clause-fault
returns-in-Err-clause-fault c = c.in-Err.ensures.fault
