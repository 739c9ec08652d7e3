use Rattle.std.proofs.Common.{rules, ◌≡◌, ◌∙◌, ◌++◌, ◌∷◌, [], List, map, All, ap, refl, subst, sym}
use Rattle.std.proofs.lemmas.List.{take_all}
use Rattle.std.proofs.lemmas.List.Elements.{All-nil, All-push}
use Rattle.tasks.specs.declared.task.Task.{Task}
use Rattle.tasks.specs.Meaning.{tasks_at}
use Rattle.printed_problems.specs.declared.printed.Problem.{Problem}
use Rattle.printed_problems.specs.Problems.{problem_of}
use Rattle.printed_problems.specs.Made.{ProblemHeld, problem_at}
use Rattle.part_texts.specs.Problems.{IsPartFault, first_fault}
use Rattle.part_texts.proofs.Parted.{problems_more, fault_step, fault_here}
use Rattle.part_texts.proofs.making.problems_after.Goals as goal

pub returns-in_err-problem_at-clause-fault : goal.returns-in_err-problem_at-clause-fault
returns-in_err-problem_at-clause-fault c =
    let s = c.args.store.now in
    let d = c.args.driver.now in
    let tasks = c.args.tasks.now in
    let due : IsPartFault (first_fault d 1 (tasks_at s tasks)) c.in_err-problem_at.field-0.0 =
    fault_here s d tasks c.loop-place.place c.index-tasks-place.result (first_fault d 1 (tasks_at s tasks)) c.in_err-problem_at.field-0.0 c.index-tasks-place.is c.loop-place-test.true
    c.in_err-problem_at.ensures.fault c.loop-place.invariant.none in
    search rules

pub loop-place-preserved : goal.loop-place-preserved
loop-place-preserved c =
    let s = c.args.store.now in
    let d = c.args.driver.now in
    let tasks = c.args.tasks.now in
    let i = c.loop-place.place in
    let t = c.index-tasks-place.result in
    let p = c.in_ok-problem_at.field-0 in
    let made = c.loop-place.made.items in
    let items : c.push.new.self.items ≡ made ++ p ∷ [] = c.in_ok-push.ensures.items in
    record {
      held = subst (All (ProblemHeld s)) (sym items) (All-push (ProblemHeld s) made p c.loop-place.invariant.held c.in_ok-problem_at.ensures.problem.held);
      are = ap (λ (ps : List Problem). map (problem_at s) ps) items
          ∙ problems_more s d tasks i t made p c.index-tasks-place.is c.loop-place-test.true c.in_ok-problem_at.ensures.problem c.loop-place.invariant.are;
      shared = c.in_ok-problem_at.ensures.shared;
      none = fault_step s d tasks i t (first_fault d 1 (tasks_at s tasks)) c.index-tasks-place.is c.loop-place-test.true c.in_ok-problem_at.ensures.none c.loop-place.invariant.none;
    }

pub loop-place-init : goal.loop-place-init
loop-place-init c =
    let s = c.args.store.now in
    record {
      held = subst (All (ProblemHeld s)) (sym c.new-made.ensures.items) (All-nil (ProblemHeld s));
      are = ap (λ (ps : List Problem). map (problem_at s) ps) c.new-made.ensures.items;
      shared = c.requires.shared;
      none = refl;
    }

pub returns-clause-problems : goal.returns-clause-problems
returns-clause-problems c =
    let s = c.args.store.now in
    record {
      held = c.loop-place.invariant.held;
      are = c.loop-place.invariant.are ∙ ap (λ (ts : List Task). map (problem_of c.args.driver.now) (tasks_at s ts)) (take_all c.loop-place.place c.args.tasks.now c.loop-place-test.false);
    }
