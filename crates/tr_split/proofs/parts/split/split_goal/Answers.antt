use Rattle.std.proofs.lemmas.Result.{IfOk-weaker}
use Rattle.tasks.proofs.Growth.{task_held_later}
use Rattle.tr_split.proofs.parts.Tasks.{tasks_split}
use Rattle.tr_split.proofs.parts.split.split_goal.Goals as goal

pub returns-clause-tasks : goal.returns-clause-tasks
returns-clause-tasks c = IfOk-weaker c.tasks_for.result _ _ (λ ts t. tasks_split c.args.store.now _ c.args.task.now _ _ _ ts.items c.in_ok-add_parts.ensures.grows c.requires.held
    c.new-goals.ensures.items c.deref.ensures.value c.in_ok-add_parts.ensures.gains t) c.tasks_for.ensures.tasks

pub tasks_for-requires-clause-held : goal.tasks_for-requires-clause-held
tasks_for-requires-clause-held c = task_held_later c.args.store.now c.add_parts.new.store c.in_ok-add_parts.ensures.grows c.args.task.now c.requires.held
