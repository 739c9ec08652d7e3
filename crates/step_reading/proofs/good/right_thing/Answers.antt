use Rattle.std.proofs.Common.{Bool, List, sym, subst}
use Rattle.std.specs.Prelude.{IsTrue}
use Rattle.tasks.specs.Task.{TaskTree}
use Rattle.tasks.specs.Meaning.{task_at}
use Rattle.tasks.proofs.Growth.{task_held_later, task_later}
use Rattle.rules.specs.declared.rule.Step.{Step}
use Rattle.rules.specs.Meaning.{steps_at}
use Rattle.step_lines.specs.Made.{IsMadeThing, thing_at}
use Rattle.step_lines.specs.Steps.{Thing}
use Rattle.step_reading.specs.Marks.{AreMarkedTyped}
use Rattle.step_reading.specs.Lines.{IsGood, line_thing}
use Rattle.step_reading.specs.Reading.{reading_at, MakesGood}
use Rattle.step_reading.proofs.Progress.{no_true}
use Rattle.step_reading.proofs.Marking.{typed_later}
use Rattle.step_reading.proofs.Growth.{line_refused, thing_held_later, thing_later, good_made, wrong_made}
use Rattle.step_reading.proofs.good.right_thing.Goals as goal

pub returns-in_default-clause-none : goal.returns-in_default-clause-none
returns-in_default-clause-none c =
    let s = c.args.store.now in
    let t = task_at s c.args.x.now.task.now in
    let r = reading_at s c.args.read.now in
    let m = subst (IsMadeThing c.line_thing.new.store (line_thing t c.args.x.now.table.now r.earlier c.args.line.now)) c.in_default.is c.in_ok-thing.ensures.made in
    line_refused t c.args.x.now.table.now c.args.x.now.tallest r c.args.line.now m

pub is_good-requires-clause-reader : goal.is_good-requires-clause-reader
is_good-requires-clause-reader c = record {
  task = task_held_later c.args.store.now c.line_thing.new.store c.in_ok-thing.ensures.grows c.args.x.now.task.now c.requires.reader.task;
  index = c.requires.reader.index;
  names = c.requires.reader.names;
}

pub is_good-requires-clause-marks : goal.is_good-requires-clause-marks
is_good-requires-clause-marks c =
    let s = c.args.store.now in
    let s' = c.line_thing.new.store in
    let g = c.in_ok-thing.ensures.grows in
    typed_later (task_at s c.args.x.now.task.now) (task_at s' c.args.x.now.task.now) s s' c.args.marks.now.items (sym (task_later s s' g c.args.x.now.task.now c.requires.reader.task)) g c.requires.marks

pub returns-then-branch-clause-some : goal.returns-then-branch-clause-some
returns-then-branch-clause-some c =
    let s = c.args.store.now in
    let s' = c.line_thing.new.store in
    let g = c.in_ok-thing.ensures.grows in
    let t = task_at s c.args.x.now.task.now in
    let r = reading_at s c.args.read.now in
    let made = thing_at s' c.in-Some.thing in
    let m = subst (IsMadeThing s' (line_thing t c.args.x.now.table.now r.earlier c.args.line.now)) c.in-Some.is c.in_ok-thing.ensures.made in
    let k = subst (λ (l : List Step). IsGood (task_at s' c.args.x.now.task.now) c.args.x.now.tallest (steps_at s' l) made) c.deref.ensures.value (c.in_ok-is_good.ensures.good.0 c.if-branch.true) in
    subst (λ (x : Thing). MakesGood t c.args.x.now.table.now c.args.x.now.tallest r c.args.line.now x)
    (sym (thing_later s' c.is_good.new.store c.in_ok-is_good.ensures.grows c.in-Some.thing m.1))
    (good_made s s' g c.args.x.now.task.now c.requires.reader.task c.args.read.now c.requires.read c.args.x.now.table.now c.args.x.now.tallest c.args.line.now made m.0 k)

pub returns-then-branch-clause-held : goal.returns-then-branch-clause-held
returns-then-branch-clause-held c =
    let s = c.args.store.now in
    let s' = c.line_thing.new.store in
    let t = task_at s c.args.x.now.task.now in
    let r = reading_at s c.args.read.now in
    let m = subst (IsMadeThing s' (line_thing t c.args.x.now.table.now r.earlier c.args.line.now)) c.in-Some.is c.in_ok-thing.ensures.made in
    thing_held_later s' c.is_good.new.store c.in_ok-is_good.ensures.grows c.in-Some.thing m.1

pub returns-then-branch-clause-marks : goal.returns-then-branch-clause-marks
returns-then-branch-clause-marks c =
    let s' = c.line_thing.new.store in
    subst (λ (u : TaskTree). AreMarkedTyped u c.is_good.new.store c.is_good.new.marks.items) (task_later c.args.store.now s' c.in_ok-thing.ensures.grows c.args.x.now.task.now c.requires.reader.task) c.in_ok-is_good.ensures.marks

pub returns-else-branch-clause-none : goal.returns-else-branch-clause-none
returns-else-branch-clause-none c =
    let s = c.args.store.now in
    let s' = c.line_thing.new.store in
    let g = c.in_ok-thing.ensures.grows in
    let t = task_at s c.args.x.now.task.now in
    let r = reading_at s c.args.read.now in
    let made = thing_at s' c.in-Some.thing in
    let m = subst (IsMadeThing s' (line_thing t c.args.x.now.table.now r.earlier c.args.line.now)) c.in-Some.is c.in_ok-thing.ensures.made in
    wrong_made s s' g c.args.x.now.task.now c.requires.reader.task c.args.read.now c.requires.read c.args.x.now.table.now c.args.x.now.tallest c.args.line.now made m.0
    (λ k. no_true (subst (λ (b : Bool). IsTrue b) c.if-branch.false (c.in_ok-is_good.ensures.good.1 (subst (λ (l : List Step). IsGood (task_at s' c.args.x.now.task.now) c.args.x.now.tallest (steps_at s' l) made) (sym c.deref.ensures.value) k))))

pub returns-else-branch-clause-marks : goal.returns-else-branch-clause-marks
returns-else-branch-clause-marks c =
    let s' = c.line_thing.new.store in
    subst (λ (u : TaskTree). AreMarkedTyped u c.is_good.new.store c.is_good.new.marks.items) (task_later c.args.store.now s' c.in_ok-thing.ensures.grows c.args.x.now.task.now c.requires.reader.task) c.in_ok-is_good.ensures.marks
