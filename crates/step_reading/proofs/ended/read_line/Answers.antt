use Rattle.std.proofs.Common.{◌+◌, List, ℕ, length, ap, subst, ◌∙◌}
use Rattle.std.specs.Prelude.{IfSome, IfNone}
use Rattle.tasks.specs.Meaning.{task_at}
use Rattle.step_lines.specs.Made.{ThingHeld, thing_at}
use Rattle.step_reading.specs.Lines.{nothing_read, LineIsRight}
use Rattle.step_reading.specs.Reading.{reading_at, MakesGood}
use Rattle.step_reading.proofs.Progress.{wrong_after}
use Rattle.step_reading.proofs.Growth.{line_read}
use Rattle.step_reading.proofs.ended.read_line.Goals as goal

pub right_thing-requires-clause-read : goal.right_thing-requires-clause-read
right_thing-requires-clause-read c = c.requires.lines.1.held

pub right_thing-requires-clause-marks : goal.right_thing-requires-clause-marks
right_thing-requires-clause-marks c = c.requires.lines.1.marks

pub returns-in_default-clause-fault : goal.returns-in_default-clause-fault
returns-in_default-clause-fault c =
    let s = c.args.store.now in
    let t = task_at s c.args.x.now.task.now in
    let names = c.args.x.now.table.now in
    let tallest = c.args.x.now.tallest in
    let l = c.args.lines.now in
    let r = reading_at s l.read in
    let wrong : List ℕ → Type 0 = λ w. LineIsRight t names tallest r w → ⊥ in
    let n0 : wrong c.deref.result.now = subst (λ o. IfNone o (wrong c.deref.result.now)) c.in_default.is c.in_ok-made.ensures.none in
    let n : wrong l.rest.items = subst wrong c.deref.ensures.value n0 in
    λ ls h. (length ls, c.in_ok-number.ensures ∙ ap (λ k. k + 1) h.count, wrong_after t names tallest ls l.rest.items nothing_read r h.made n)

pub returns-clause-read : goal.returns-clause-read
returns-clause-read c =
    let s = c.args.store.now in
    let s' = c.right_thing.new.store in
    let t = task_at s c.args.x.now.task.now in
    let names = c.args.x.now.table.now in
    let tallest = c.args.x.now.tallest in
    let l = c.args.lines.now in
    let r = reading_at s l.read in
    let x = c.in-Some.thing in
    let m0 : MakesGood t names tallest r c.deref.result.now (thing_at s' x) = subst (λ o. IfSome o (λ y. MakesGood t names tallest r c.deref.result.now (thing_at s' y))) c.in-Some.is c.in_ok-made.ensures.some in
    let m : MakesGood t names tallest r l.rest.items (thing_at s' x) = subst (λ w. MakesGood t names tallest r w (thing_at s' x)) c.deref.ensures.value m0 in
    let held : ThingHeld s' x = subst (λ o. IfSome o (ThingHeld s')) c.in-Some.is c.in_ok-made.ensures.held in
    λ ls h. line_read s s' c.in_ok-made.ensures.grows t names tallest ls l.rest.items l _ h x c.in_ok-keep.ensures held m c.in_ok-number.ensures c.in_ok-made.ensures.marks
