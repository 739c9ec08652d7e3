use Rattle.std.proofs.Common.{rules, ◌≡◌, ◌∙◌, ◌+◌, ◌++◌, ◌∷◌, ℕ, List, [], Result, sym, subst}
use Rattle.tasks.specs.Task.{TaskTree}
use Rattle.tasks.specs.Meaning.{tasks_at}
use Rattle.tasks.proofs.trees.Nodes.{Grows_trans}
use Rattle.evidence.specs.Stages.{Refusal}
use Rattle.evidence.specs.stage_limits.Laws.{limited_gives}
use Rattle.stages.specs.transformations.Transformations.{equation_of}
use Rattle.stages.specs.Carried.{carried_once, at_stage}
use Rattle.stages.specs.Faults.{IsCarryFault}
use Rattle.stages.proofs.CarriedTasks.{Each, task_there_held, task_there_valid, once_step, once_fault, once_done, each_step, each_done}
use Rattle.stages.proofs.carrying.carry_once.Goals as goal

pub push_tasks-requires-clause-held : goal.push_tasks-requires-clause-held
push_tasks-requires-clause-held c =
    task_there_held c.args.store.now c.loop-i.store c.loop-i.invariant.grows c.args.tasks.now c.loop-i.i c.index-tasks-i.result c.requires.held c.index-tasks-i.is c.loop-i-test.true

pub push_tasks-requires-clause-valid : goal.push_tasks-requires-clause-valid
push_tasks-requires-clause-valid c =
    task_there_valid c.args.store.now c.loop-i.store c.loop-i.invariant.grows c.args.tasks.now c.loop-i.i c.index-tasks-i.result c.requires c.index-tasks-i.is c.loop-i-test.true

pub push_tasks-requires-clause-all : goal.push_tasks-requires-clause-all
push_tasks-requires-clause-all c = c.loop-i.invariant.are

pub loop-i-preserved : goal.loop-i-preserved
loop-i-preserved c =
    let e = equation_of c.args.stage.now in
    let s0 = c.args.store.now in
    let s = c.loop-i.store in
    let s1 = c.push_tasks.new.store in
    let g = c.loop-i.invariant.grows in
    let tasks = c.args.tasks.now in
    let i = c.loop-i.i in
    let n = c.in_ok-count.count in
    let t = c.index-tasks-i.result in
    let all = c.loop-i.all.items in
    let new = c.push_tasks.new.all.items in
    let p = c.in_ok-count.ensures.pushed in
    record {
      grows = Grows_trans s0 s s1 g c.push_tasks.ensures.grows;
      are = p.are;
      so_far = once_step e s0 tasks s s1 g i n t all new c.requires.held c.index-tasks-i.is c.loop-i-test.true p c.loop-i.invariant.so_far;
      each = subst (λ (ns : List ℕ). Each e s0 tasks s1 new ns (i + 1)) (sym c.in_ok-push.ensures.items)
          (each_step e s0 tasks s s1 g i n t all new c.loop-i.counts.items c.requires.held c.index-tasks-i.is c.loop-i-test.true p c.loop-i.invariant.each);
    }

pub returns-in_err-count-clause-fault : goal.returns-in_err-count-clause-fault
returns-in_err-count-clause-fault c =
    let e = c.in_err-count.field-0.0 in
    let due : IsCarryFault (at_stage c.args.number (carried_once (equation_of c.args.stage.now) (tasks_at c.args.store.now c.args.tasks.now))) e =
    once_fault (equation_of c.args.stage.now) c.args.store.now c.args.tasks.now c.loop-i.store c.loop-i.invariant.grows c.loop-i.i c.args.number c.index-tasks-i.result c.loop-i.all.items e
    c.requires.held c.index-tasks-i.is c.loop-i-test.true c.in_err-count.ensures.fault c.loop-i.invariant.so_far in
    search rules

pub returns-clause-tasks : goal.returns-clause-tasks
returns-clause-tasks c =
    let done = once_done (equation_of c.args.stage.now) c.args.store.now c.args.tasks.now c.loop-i.store c.loop-i.i c.loop-i.all.items c.loop-i-test.false c.loop-i.invariant.so_far in
    record { are = c.in_ok-made.ensures.tasks.are; is = done ∙ c.in_ok-made.ensures.tasks.is }

pub returns-clause-counts : goal.returns-clause-counts
returns-clause-counts c =
    let s = c.loop-i.store in
    let all = c.loop-i.all.items in
    let made = c.in_ok-made.made.items in
    let same = limited_gives (tasks_at s all) (tasks_at s made) c.in_ok-made.ensures.tasks.is in
    each_done (equation_of c.args.stage.now) c.args.store.now c.args.tasks.now s c.loop-i.i all made c.loop-i.counts.items c.loop-i-test.false same c.loop-i.invariant.each

pub returns-in_err-made-clause-fault : goal.returns-in_err-made-clause-fault
returns-in_err-made-clause-fault c =
    let e = c.in_err-made.field-0.0 in
    let done = once_done (equation_of c.args.stage.now) c.args.store.now c.args.tasks.now c.loop-i.store c.loop-i.i c.loop-i.all.items c.loop-i-test.false c.loop-i.invariant.so_far in
    let due : IsCarryFault (at_stage c.args.number (carried_once (equation_of c.args.stage.now) (tasks_at c.args.store.now c.args.tasks.now))) e =
    subst (λ (r : Result (List TaskTree) Refusal). IsCarryFault (at_stage c.args.number r) e) (sym done) c.in_err-made.ensures.fault in
    search rules
