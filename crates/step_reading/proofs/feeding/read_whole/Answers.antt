use Rattle.std.proofs.Common.{◌≡◌, ℕ, Option, subst, ◌∙◌}
use Rattle.std.proofs.lemmas.Result.{IfOk-weaker, IfErr-weaker}
use Rattle.tasks.specs.Task.{TaskTree}
use Rattle.tasks.specs.Meaning.{task_at}
use Rattle.tasks.proofs.trees.Nodes.{Grows_trans}
use Rattle.tasks.proofs.Growth.{task_held_later, task_later}
use Rattle.kernel.specs.Right.{Closes}
use Rattle.rules.specs.Meaning.{steps_at}
use Rattle.step_reading.specs.Lines.{StepsOf}
use Rattle.step_reading.specs.Reading.{IsReadFault}
use Rattle.step_reading.proofs.Exact.{refused_for_memory}
use Rattle.step_reading.proofs.feeding.read_whole.Goals as goal

pub feed_pieces-requires-clause-fed : goal.feed_pieces-requires-clause-fed
feed_pieces-requires-clause-fed c = c.new-reader.ensures.fed c.args.store.now c.args.task.now c.args.names.now

pub finish-requires-clause-task : goal.finish-requires-clause-task
finish-requires-clause-task c = task_held_later c.args.store.now c.feed_pieces.new.store c.in-Ok.ensures.grows c.args.task.now c.requires

pub finish-requires-clause-fed : goal.finish-requires-clause-fed
finish-requires-clause-fed c = (c.args.bytes.now, c.in-Ok.ensures.fed)

pub returns-in-Ok-clause-steps : goal.returns-in-Ok-clause-steps
returns-in-Ok-clause-steps c =
    let s = c.args.store.now in
    let s1 = c.feed_pieces.new.store in
    let s2 = c.finish.new.store in
    let task = c.args.task.now in
    let names = c.args.names.now in
    let bytes = c.args.bytes.now in
    let fed = c.in-Ok.ensures.fed in
    let same : task_at s1 task ≡ task_at s task = task_later s s1 c.in-Ok.ensures.grows task c.requires in
    IfOk-weaker c.finish.result _ _
    (λ v k. subst (λ (u : TaskTree). StepsOf u names c.args.tallest bytes (steps_at s2 v.items)) same (subst (λ (z : Option ℕ). StepsOf (task_at s1 task) names z bytes (steps_at s2 v.items)) (c.in-Ok.ensures.tallest ∙ c.new-reader.ensures.tallest) (k bytes fed)))
    c.finish.ensures.steps

pub returns-in-Ok-clause-closes : goal.returns-in-Ok-clause-closes
returns-in-Ok-clause-closes c =
    let s = c.args.store.now in
    let s1 = c.feed_pieces.new.store in
    let s2 = c.finish.new.store in
    let task = c.args.task.now in
    let same : task_at s1 task ≡ task_at s task = task_later s s1 c.in-Ok.ensures.grows task c.requires in
    IfOk-weaker c.finish.result _ _ (λ v k. subst (λ (u : TaskTree). Closes u (steps_at s2 v.items)) same k) c.finish.ensures.closes

pub returns-in-Ok-clause-fault : goal.returns-in-Ok-clause-fault
returns-in-Ok-clause-fault c =
    let s = c.args.store.now in
    let s1 = c.feed_pieces.new.store in
    let task = c.args.task.now in
    let names = c.args.names.now in
    let bytes = c.args.bytes.now in
    let fed = c.in-Ok.ensures.fed in
    let same : task_at s1 task ≡ task_at s task = task_later s s1 c.in-Ok.ensures.grows task c.requires in
    IfErr-weaker c.finish.result _ _
    (λ e k. subst (λ (u : TaskTree). IsReadFault u names c.args.tallest bytes e) same (subst (λ (z : Option ℕ). IsReadFault (task_at s1 task) names z bytes e) (c.in-Ok.ensures.tallest ∙ c.new-reader.ensures.tallest) (k bytes fed)))
    c.finish.ensures.fault

pub returns-in-Ok-clause-complete : goal.returns-in-Ok-clause-complete
returns-in-Ok-clause-complete c = IfErr-weaker c.finish.result _ _ (λ e k. refused_for_memory (task_at c.args.store.now c.args.task.now) c.args.names.now c.args.tallest c.args.bytes.now e k) (returns-in-Ok-clause-fault c)

pub returns-in-Ok-clause-grows : goal.returns-in-Ok-clause-grows
returns-in-Ok-clause-grows c = Grows_trans c.args.store.now c.feed_pieces.new.store c.finish.new.store c.in-Ok.ensures.grows c.finish.ensures.grows

pub returns-in-Err-clause-fault : goal.returns-in-Err-clause-fault
returns-in-Err-clause-fault c =
    let s = c.args.store.now in
    let task = c.args.task.now in
    let names = c.args.names.now in
    let bytes = c.args.bytes.now in
    subst (λ (z : Option ℕ). IsReadFault (task_at s task) names z bytes c.in-Err.fault) c.new-reader.ensures.tallest c.in-Err.ensures.fault

pub returns-in-Err-clause-complete : goal.returns-in-Err-clause-complete
returns-in-Err-clause-complete c = refused_for_memory (task_at c.args.store.now c.args.task.now) c.args.names.now c.args.tallest c.args.bytes.now c.in-Err.fault (returns-in-Err-clause-fault c)
