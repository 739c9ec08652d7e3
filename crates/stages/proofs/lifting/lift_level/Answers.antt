use Rattle.std.proofs.Common.{rules, ◌≡◌, ◌∙◌, ◌≤◌, ◌+◌, ◌-◌, ℕ, [], ◌∷◌, ◌++◌, List, length, get_or, take, drop, reverse, ap, refl, sym, subst, arith}
use Rattle.std.proofs.lemmas.List.{length-reverse, reverse-reverse}
use Rattle.std.proofs.lemmas.List.Elements.{All-nil}
use Rattle.tasks.proofs.trees.Nodes.{Grows_refl, Grows_trans}
use Rattle.tasks.specs.declared.task.Task.{Task}
use Rattle.tasks.specs.Meaning.{task_at, tasks_at}
use Rattle.kernel.specs.rules.declared.rule.Step.{Step}
use Rattle.kernel.specs.rules.Meaning.{StepsHeld}
use Rattle.evidence.specs.Stages.{PartsHeld, parts_at}
use Rattle.stages.specs.transformations.Transformations.{equation_of}
use Rattle.stages.specs.Lifted.{IsDerived}
use Rattle.stages.proofs.CarriedTasks.{task_there_held, task_there_valid}
use Rattle.stages.proofs.NextTask.{Far, far_none, far_done, counted, group_is, later_is, group_held, group_parts_held, slice_group, next_fits, next_end, next_gives, next_close, next_far, held_next}
use Rattle.stages.proofs.lifting.lift_level.Goals as goal

pub loop-i-init : goal.loop-i-init
loop-i-init c =
    let e = equation_of c.args.stage.now in
    let s = c.args.store in
    let made = c.args.made.items in
    let none : c.in_ok-lists.lists.items ≡ [] = search rules in
    let far = far_none e (tasks_at s c.args.tasks.now) c.args.counts.now (tasks_at s made) (parts_at s c.args.parts.now) c.requires.become in
    record {
      grows = Grows_refl s;
      held = subst (PartsHeld s) (sym none) (All-nil (StepsHeld s));
      rest = ap reverse c.reverse.ensures.items ∙ reverse-reverse made;
      so_far = subst (λ (z : List (List Step)). Far e s s c.args.tasks.now c.args.counts.now made c.args.parts.now 0 0 z) (sym none) far;
    }

pub bounds-counts-i : goal.bounds-counts-i
bounds-counts-i c = counted (equation_of c.args.stage.now) c.args.store c.args.tasks.now c.args.counts.now c.args.made.items c.args.parts.now c.loop-i.i c.requires c.loop-i-test.true

pub overflow_add-next : goal.overflow_add-next
overflow_add-next c =
    let fits = next_end (equation_of c.args.stage.now) c.args.store c.loop-i.store c.loop-i.invariant.grows c.args.tasks.now c.args.counts.now c.args.made.items c.args.parts.now c.loop-i.i c.loop-i.used c.loop-i.lists.items
    c.requires c.loop-i.invariant.so_far c.index-tasks-i.result c.index-tasks-i.is c.loop-i-test.true (get_or c.args.counts.now c.loop-i.i 0) refl in
    omega (arith, fits)

pub next_group-requires : goal.next_group-requires
next_group-requires c =
    let fits = next_fits (equation_of c.args.stage.now) c.args.store c.loop-i.store c.loop-i.invariant.grows c.args.tasks.now c.args.counts.now c.args.made.items c.args.parts.now c.loop-i.i c.loop-i.used c.loop-i.lists.items
    c.requires c.loop-i.invariant.so_far c.index-tasks-i.result c.index-tasks-i.is c.loop-i-test.true (get_or c.args.counts.now c.loop-i.i 0) refl in
    let left : length c.loop-i.left.items ≡ length (drop c.loop-i.used c.args.made.items) = sym (length-reverse c.loop-i.left.items) ∙ ap length c.loop-i.invariant.rest in
    omega (arith, fits, left)

pub slice_bounds-lift_one-end : goal.slice_bounds-lift_one-end
slice_bounds-lift_one-end c =
    let n = get_or c.args.counts.now c.loop-i.i 0 in
    let fits = next_end (equation_of c.args.stage.now) c.args.store c.loop-i.store c.loop-i.invariant.grows c.args.tasks.now c.args.counts.now c.args.made.items c.args.parts.now c.loop-i.i c.loop-i.used c.loop-i.lists.items
    c.requires c.loop-i.invariant.so_far c.index-tasks-i.result c.index-tasks-i.is c.loop-i-test.true n refl in
    fits

pub lift_one-requires-clause-held : goal.lift_one-requires-clause-held
lift_one-requires-clause-held c =
    task_there_held c.args.store c.loop-i.store c.loop-i.invariant.grows c.args.tasks.now c.loop-i.i c.index-tasks-i.result c.requires.are.held c.index-tasks-i.is c.loop-i-test.true

pub lift_one-requires-clause-valid : goal.lift_one-requires-clause-valid
lift_one-requires-clause-valid c =
    task_there_valid c.args.store c.loop-i.store c.loop-i.invariant.grows c.args.tasks.now c.loop-i.i c.index-tasks-i.result c.requires.are c.index-tasks-i.is c.loop-i-test.true

pub lift_one-requires-clause-to_held : goal.lift_one-requires-clause-to_held
lift_one-requires-clause-to_held c =
    let to = c.in_ok-to.to.items in
    let n = get_or c.args.counts.now c.loop-i.i 0 in
    let is = group_is c.args.made.items (reverse c.loop-i.left.items) to (reverse c.next_group.new.left.items) c.loop-i.used n c.loop-i.invariant.rest c.in_ok-to.ensures.items c.in_ok-to.ensures.count in
    group_held c.args.store c.loop-i.store c.loop-i.invariant.grows c.loop-i.used n c.args.made.items to c.requires.made_held is

pub lift_one-requires-clause-gives : goal.lift_one-requires-clause-gives
lift_one-requires-clause-gives c =
    let to = c.in_ok-to.to.items in
    let n = get_or c.args.counts.now c.loop-i.i 0 in
    let is = group_is c.args.made.items (reverse c.loop-i.left.items) to (reverse c.next_group.new.left.items) c.loop-i.used n c.loop-i.invariant.rest c.in_ok-to.ensures.items c.in_ok-to.ensures.count in
    next_gives (equation_of c.args.stage.now) c.args.store c.loop-i.store c.loop-i.invariant.grows c.args.tasks.now c.args.counts.now c.args.made.items c.args.parts.now c.loop-i.i c.loop-i.used c.loop-i.lists.items
    c.requires c.loop-i.invariant.so_far c.index-tasks-i.result c.index-tasks-i.is c.loop-i-test.true n refl to is

pub lift_one-requires-clause-parts_held : goal.lift_one-requires-clause-parts_held
lift_one-requires-clause-parts_held c =
    let n = get_or c.args.counts.now c.loop-i.i 0 in
    let own = slice_group c.args.parts.now c.loop-i.used n (c.loop-i.used + n) refl in
    group_parts_held c.args.store c.loop-i.store c.loop-i.invariant.grows c.loop-i.used n c.args.parts.now _ c.requires.parts_held own

pub lift_one-requires-clause-close : goal.lift_one-requires-clause-close
lift_one-requires-clause-close c =
    let to = c.in_ok-to.to.items in
    let n = get_or c.args.counts.now c.loop-i.i 0 in
    let is = group_is c.args.made.items (reverse c.loop-i.left.items) to (reverse c.next_group.new.left.items) c.loop-i.used n c.loop-i.invariant.rest c.in_ok-to.ensures.items c.in_ok-to.ensures.count in
    let own = slice_group c.args.parts.now c.loop-i.used n (c.loop-i.used + n) refl in
    next_close (equation_of c.args.stage.now) c.args.store c.loop-i.store c.loop-i.invariant.grows c.args.tasks.now c.args.counts.now c.args.made.items c.args.parts.now c.loop-i.i c.loop-i.used c.loop-i.lists.items
    c.requires c.loop-i.invariant.so_far c.index-tasks-i.result c.index-tasks-i.is c.loop-i-test.true n refl to _ is own

pub loop-i-preserved : goal.loop-i-preserved
loop-i-preserved c =
    let e = equation_of c.args.stage.now in
    let s0 = c.args.store in
    let s = c.loop-i.store in
    let g = c.loop-i.invariant.grows in
    let tasks = c.args.tasks.now in
    let parts = c.args.parts.now in
    let made = c.args.made.items in
    let used = c.loop-i.used in
    let lists = c.loop-i.lists.items in
    let n = get_or c.args.counts.now c.loop-i.i 0 in
    let d = c.in_ok-derived.derived in
    let own = slice_group parts used n (used + n) refl in
    let items : c.push.new.self.items ≡ lists ++ d.steps ∷ [] = c.in_ok-push.ensures.items in
    record {
      grows = Grows_trans s0 s d.store g c.in_ok-derived.ensures.grows;
      held = subst (PartsHeld d.store) (sym items) (held_next s (task_at s c.index-tasks-i.result) _ lists d c.loop-i.invariant.held c.in_ok-derived.ensures);
      rest = later_is made (reverse c.loop-i.left.items) c.in_ok-to.to.items (reverse c.next_group.new.left.items) used n c.loop-i.invariant.rest c.in_ok-to.ensures.items c.in_ok-to.ensures.count;
      so_far = subst (λ (z : List (List Step)). Far e s0 d.store tasks c.args.counts.now made parts (c.loop-i.i + 1) (used + n) z) (sym items)
          (next_far e s0 s g tasks c.args.counts.now made parts c.loop-i.i used lists c.requires c.loop-i.invariant.so_far c.index-tasks-i.result c.index-tasks-i.is c.loop-i-test.true n refl _ d
          c.loop-i.invariant.held own c.in_ok-derived.ensures);
    }

pub returns : goal.returns
returns c =
    far_done (equation_of c.args.stage.now) c.args.store c.args.tasks.now c.args.counts.now c.args.made.items c.args.parts.now c.loop-i.i c.loop-i.used c.loop-i.lists.items
    (record { store = c.loop-i.store; lists = c.loop-i.lists }) c.requires c.loop-i-test.false refl c.loop-i.invariant.grows c.loop-i.invariant.held c.loop-i.invariant.so_far
