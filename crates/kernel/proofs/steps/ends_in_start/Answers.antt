use Rattle.std.proofs.Common.{length, get_or, ap, refl, ◌-◌}
use Rattle.tasks.specs.Meaning.{task_at}
use Rattle.kernel.proofs.Places.{starts_moved, nonempty}
use Rattle.kernel.proofs.steps.ends_in_start.Goals as goal

pub returns : goal.returns
returns c =
    let s = c.args.store.now in let steps = c.args.steps.now in let x = c.index-steps-steps.result in
    starts_moved (task_at s c.args.task.now) s steps (length steps) (get_or steps (length steps - 1) x) c.is_start.result refl
    (ap (get_or steps (length steps - 1)) c.index-steps-steps.is) (nonempty _ _ c.is_empty.ensures c.if-is_empty.false) (rw c.as_slice.ensures at c.is_start.ensures)
