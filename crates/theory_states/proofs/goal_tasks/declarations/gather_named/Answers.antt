use Rattle.std.proofs.lemmas.Result.{on_ok_weaker}
use Rattle.theory_states.proofs.goal_tasks.Steps.{done_none}
use Rattle.theory_states.proofs.goal_tasks.declarations.gather_named.Goals as goal

pub note_task-requires-clause-walk : goal.note_task-requires-clause-walk
note_task-requires-clause-walk c = done_none c.args.store.now _ _ c.new-done.ensures.empty

pub returns : goal.returns
returns c = on_ok_weaker c.note_task.result (λ h. h.gains) c.note_task.ensures
