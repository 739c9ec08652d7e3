use Rattle.std.proofs.Common.{sym, ap, ◌∙◌}
use Rattle.tasks.specs.Task.{TaskTree}
use Rattle.tasks.proofs.Growth.{task_held_later, task_later}
use Rattle.walking.proofs.rewriting.Faults.{err_passed}
use Rattle.walking.proofs.rewriting.Mapped.{own_goal}
use Rattle.walking.proofs.rewriting.Loops.{can_now}
use Rattle.walking.proofs.rewriting.Tasks.{goal_fault, only_goal_made, later_fault, everywhere_made}
use Rattle.walking.proofs.rewriting.making.scoped_task.Goals as goal

pub image_of-requires-clause-formula : goal.image_of-requires-clause-formula
image_of-requires-clause-formula g c = own_goal (g.F.RewriteFormulas.Ready c.args.rewrite.now) c.args.store.now c.args.task.now c.requires.can

pub returns-in_err-goal-clause-fault : goal.returns-in_err-goal-clause-fault
returns-in_err-goal-clause-fault g c = err_passed c.from_residual.result c.in_err-goal.field-0.0 _ c.from_residual.ensures.1 (goal_fault (g.F.RewriteFormulas.function c.args.rewrite.now) c.args.store.now c.args.task.now c.requires.can.held c.args.scope c.in_err-goal.field-0.0 c.in_err-goal.ensures.fault)

pub with_goal_changed-requires-clause-can : goal.with_goal_changed-requires-clause-can
with_goal_changed-requires-clause-can g c = can_now (g.F.RewriteFormulas.Ready c.args.rewrite.now) (g.met.F.RewriteFormulas.stays_ready c.args.rewrite.now) (g.F.RewriteFormulas.function c.args.rewrite.now) c.args.store.now c.image_of.new.store c.in_ok-goal.ensures.grows c.args.task.now c.requires.can

pub with_goal_changed-requires-clause-goal : goal.with_goal_changed-requires-clause-goal
with_goal_changed-requires-clause-goal g c =
    c.in_ok-goal.ensures.tree ∙ sym (ap (λ (t : TaskTree). g.F.RewriteFormulas.function c.args.rewrite.now t t.goal) (task_later c.args.store.now c.image_of.new.store c.in_ok-goal.ensures.grows c.args.task.now c.requires.can.held))

pub returns-in_err-made-in-Everywhere-clause-fault : goal.returns-in_err-made-in-Everywhere-clause-fault
returns-in_err-made-in-Everywhere-clause-fault g c =
    let e = c.in_err-made-in-Everywhere.field-0.0 in
    err_passed c.from_residual-in_err-made-in-Everywhere.result e _ c.from_residual-in_err-made-in-Everywhere.ensures.1
    (later_fault (g.F.RewriteFormulas.function c.args.rewrite.now) c.args.store.now c.args.task.now c.requires.can.held c.image_of.new.store c.in_ok-goal.ensures.grows c.args.scope c.in-Everywhere.is e c.in_err-made-in-Everywhere.ensures.fault)

pub returns-in_ok-made-in-Everywhere-clause-task : goal.returns-in_ok-made-in-Everywhere-clause-task
returns-in_ok-made-in-Everywhere-clause-task g c = everywhere_made (g.F.RewriteFormulas.function c.args.rewrite.now) c.args.store.now c.args.task.now c.requires.can.held c.image_of.new.store c.in_ok-goal.ensures.grows c.args.scope c.in-Everywhere.is _ c.in_ok-made-in-Everywhere.ensures.task

pub returns-in_ok-made-in-Goal-clause-task : goal.returns-in_ok-made-in-Goal-clause-task
returns-in_ok-made-in-Goal-clause-task g c =
    only_goal_made (g.F.RewriteFormulas.function c.args.rewrite.now) c.args.store.now c.args.task.now c.requires.can.held c.image_of.new.store c.in_ok-goal.ensures.grows c.args.scope c.in-Goal.is c.in_ok-goal.goal c.in_ok-goal.ensures.tree _ (c.in_ok-made-in-Goal.ensures.tree c.image_of.new.store)

pub returns-in_ok-made-in-Goal-clause-held : goal.returns-in_ok-made-in-Goal-clause-held
returns-in_ok-made-in-Goal-clause-held g c =
    c.in_ok-made-in-Goal.ensures.held c.image_of.new.store (task_held_later c.args.store.now c.image_of.new.store c.in_ok-goal.ensures.grows c.args.task.now c.requires.can.held) c.in_ok-goal.ensures.held
