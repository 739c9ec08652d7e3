use Rattle.std.proofs.Common.{sym}
use Rattle.tasks.specs.Meaning.{task_at}
use Rattle.evidence.proofs.task_parts.One.{one_tree, one_held}
use Rattle.tr_discriminate.proofs.Early.{large_fault, misplaced_fault, placed_tasks, fault_there}
use Rattle.tr_discriminate.proofs.discriminate.DiscriminateTransform.make.Goals as goal

pub returns-in-Some-clause-fault : goal.returns-in-Some-clause-fault
returns-in-Some-clause-fault c =
    let s = c.args.store.now in
    misplaced_fault (task_at s c.args.task.now) c.in-Some.decl (sym (rw c.as_slice.ensures at (c.in-Some.ensures s)))

pub returns-in_err-made-clause-fault : goal.returns-in_err-made-clause-fault
returns-in_err-made-clause-fault c =
    let s = c.args.store.now in
    fault_there c.from_residual.result c.in_err-made.field-0.0 _ c.from_residual.ensures.1
    (large_fault (task_at s c.args.task.now) (sym (rw c.as_slice.ensures at (c.in_default.ensures s))) c.in_err-made.field-0.0 c.in_err-made.ensures.fault)

pub returns-clause-held : goal.returns-clause-held
returns-clause-held c = one_held _ _ _ c.in_ok-tasks.ensures c.in_ok-made.ensures.held

pub returns-clause-tasks : goal.returns-clause-tasks
returns-clause-tasks c =
    let s = c.args.store.now in
    placed_tasks (task_at s c.args.task.now) _ (sym (rw c.as_slice.ensures at (c.in_default.ensures s))) (one_tree _ _ _ _ c.in_ok-tasks.ensures c.in_ok-made.ensures.task)
