use Rattle.std.proofs.Common.{[], sym}
use Rattle.std.proofs.lemmas.List.{length-map}
use Rattle.std.proofs.lemmas.List.Elements.{All-nil}
use Rattle.tasks.specs.Meaning.{task_at}
use Rattle.tasks.specs.Valid.{IsTypeOver}
use Rattle.rules.specs.Meaning.{steps_at}
use Rattle.kernel.proofs.Complete.{all_closed, step_right}
use Rattle.step_reading.proofs.quick_steps.steps.is_right_step.Goals as goal

pub told_row-requires-clause-place : goal.told_row-requires-clause-place
told_row-requires-clause-place c =
    let s = c.args.store.now in
    record {
      look = c.requires.look_held;
      sequent = rw c.as_slice-sequent.ensures c.requires.step_held.sequent;
      closed = all_closed (task_at s c.args.look.now.task.now) s c.as_slice-sequent.result.now (c.is_ready.ensures.formulas c.if-not-is_ready.false);
      before = c.requires.before_held;
      earlier = c.is_ready.ensures.earlier c.if-not-is_ready.false;
    }

pub returns-in-Some-clause-right : goal.returns-in-Some-clause-right
returns-in-Some-clause-right c =
    let s = c.args.store.now in
    let t = task_at s c.args.look.now.task.now in
    step_right t (steps_at s c.args.before.now) s c.args.step.now c.as_slice-sequent.result.now [] c.as_slice-premises.result.now c.in-Some.told
    c.as_slice-sequent.ensures (sym (c.is_ready.ensures.types c.if-not-is_ready.false)) c.as_slice-premises.ensures
    (c.is_ready.ensures.formulas c.if-not-is_ready.false)
    (c.is_ready.ensures.trees c.if-not-is_ready.false)
    (All-nil (IsTypeOver t 0))
    (rw length-map (c.is_ready.ensures.earlier c.if-not-is_ready.false))
    (rw c.in-Some.is at c.in_ok-told.ensures.told)
