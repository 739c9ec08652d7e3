use Rattle.std.proofs.Common.{rules, ◌≡◌, ◌+◌, ◌++◌, ◌∷◌, List, [], map, take, Ok, ap, refl, sym, subst}
use Rattle.tasks.specs.Task.{TaskTree}
use Rattle.std.proofs.lemmas.List.{take_all}
use Rattle.tasks.proofs.trees.Nodes.{Grows_refl, Grows_trans}
use Rattle.tasks.specs.declared.task.Task.{Task}
use Rattle.tasks.specs.Meaning.{task_at, tasks_at}
use Rattle.evidence.specs.Stages.{StageEquation}
use Rattle.stages.specs.declared.task_levels.Level.{Level}
use Rattle.stages.specs.declared.transformations.transformation.Transformation.{Transformation}
use Rattle.stages.specs.transformations.Transformations.{equation_of}
use Rattle.stages.specs.Carried.{carried, carried_once, carried_task}
use Rattle.stages.specs.Steps.{AreTasks}
use Rattle.stages.specs.Levels.{BecomeEach, IsCarried}
use Rattle.stages.proofs.CarriedTasks.{carried_next, carried_none, left_done, left_step}
use Rattle.stages.proofs.Levels.{equations_more}
use Rattle.stages.proofs.carrying.carry.Goals as goal

pub carry_once-requires : goal.carry_once-requires
carry_once-requires c = subst (AreTasks c.loop-number.store) (sym c.deref.ensures.value) c.loop-number.invariant.carried.are

pub loop-number-init : goal.loop-number-init
loop-number-init c =
    let s = c.args.store.now in
    let t = task_at s c.args.task.now in
    let none : c.in_ok-levels.levels.items ≡ [] = search rules in
    let alone = c.in_ok-tasks.ensures in
    record {
      grows = Grows_refl s;
      carried = subst (λ (ls : List Level). IsCarried [] s t ls c.in_ok-tasks.tasks.items) (sym none) (carried_none s c.args.task.now c.in_ok-tasks.tasks.items c.requires.held c.requires.valid alone);
      left = ap (λ (ts : List TaskTree). carried (map equation_of c.args.stages.now) 0 ts) (alone.tree s);
    }

pub loop-number-preserved : goal.loop-number-preserved
loop-number-preserved c =
    let s = c.loop-number.store in
    let s1 = c.carry_once.new.store in
    let x = c.index-stages-number.result in
    let n = c.loop-number.number in
    let tasks = c.loop-number.tasks.items in
    let made = c.in_ok-made.made.items in
    let us = tasks_at s1 made in
    let t = task_at c.args.store.now c.args.task.now in
    let e = subst (λ (z : List Task). carried_once (equation_of x) (tasks_at s z) ≡ Ok us) c.deref.ensures.value c.in_ok-made.ensures.tasks.is in
    let each = subst (λ (z : List Task). BecomeEach (equation_of x) (tasks_at s z) c.in_ok-made.counts.items us) c.deref.ensures.value c.in_ok-made.ensures.counts in
    let level : Level = record { tasks = c.loop-number.tasks; counts = c.in_ok-made.counts } in
    let next = carried_next (map equation_of (take n c.args.stages.now)) (equation_of x) s s1 c.carry_once.ensures.grows t c.loop-number.levels.items level tasks made refl c.loop-number.invariant.carried
    c.in_ok-made.ensures.tasks.are each in
    record {
      grows = Grows_trans c.args.store.now s s1 c.loop-number.invariant.grows c.carry_once.ensures.grows;
      carried = subst (λ (ls : List Level). IsCarried (map equation_of (take (n + 1) c.args.stages.now)) s1 t ls made) (sym c.in_ok-push.ensures.items)
          (subst (λ (es : List StageEquation). IsCarried es s1 t (c.loop-number.levels.items ++ level ∷ []) made) (sym (equations_more c.args.stages.now n x c.index-stages-number.is c.loop-number-test.true)) next);
      left = left_step c.args.stages.now (carried_task (map equation_of c.args.stages.now) t) n x (tasks_at s tasks) us c.index-stages-number.is c.loop-number-test.true e c.loop-number.invariant.left;
    }

pub returns-clause-carried : goal.returns-clause-carried
returns-clause-carried c =
    let stages = c.args.stages.now in
    subst (λ (xs : List Transformation). IsCarried (map equation_of xs) c.loop-number.store (task_at c.args.store.now c.args.task.now) c.loop-number.levels.items c.loop-number.tasks.items)
    (take_all c.loop-number.number stages c.loop-number-test.false) c.loop-number.invariant.carried

pub returns-clause-tasks : goal.returns-clause-tasks
returns-clause-tasks c =
    let s = c.loop-number.store in
    let said = carried_task (map equation_of c.args.stages.now) (task_at c.args.store.now c.args.task.now) in
    record {
      are = c.loop-number.invariant.carried.are;
      is = left_done c.args.stages.now said c.loop-number.number (tasks_at s c.loop-number.tasks.items) c.loop-number-test.false c.loop-number.invariant.left;
    }
