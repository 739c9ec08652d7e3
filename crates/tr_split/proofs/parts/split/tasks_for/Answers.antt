use Rattle.std.proofs.Common.{sym, subst, get_or}
use Rattle.std.proofs.lemmas.List.Elements.{All-push}
use Rattle.trees.specs.declared.TermId.{TermId}
use Rattle.tasks.specs.Copying.{IsWithGoal}
use Rattle.tasks.specs.Meaning.{TaskHeld, TasksHeld}
use Rattle.tr_split.proofs.parts.Tasks.{tasks_more}
use Rattle.tr_split.proofs.parts.split.tasks_for.Goals as goal

abbrev none : TermId
none = record { 0 = 0 }

pub loop-goal-preserved : goal.loop-goal-preserved
loop-goal-preserved c =
    let s = c.args.store.now in
    let from = c.args.task.now in
    let ts = c.loop-goal.tasks.items in
    let t = c.in_ok-with_goal.field-0 in
    let id = get_or c.args.goals.now c.loop-goal.goal-index none in
    let w : IsWithGoal from id t = c.in_ok-with_goal.ensures in
    let held : TaskHeld s t = w.held s c.requires.held (c.requires.goals_held c.loop-goal.goal-index none c.loop-goal-test.true) in
    record {
      held = subst (TasksHeld s) (sym c.in_ok-push.ensures.items) (All-push (TaskHeld s) ts t c.loop-goal.invariant.held held);
      tasks = tasks_more s from ts c.push.new.self.items c.args.goals.now c.loop-goal.goal-index none t c.loop-goal-test.true c.in_ok-push.ensures.items w c.loop-goal.invariant.tasks;
    }
