use Rattle.std.proofs.Common.{subst}
use Rattle.std.specs.Prelude.{IfSome}
use Rattle.tasks.proofs.Growth.{task_held_later}
use Rattle.step_lines.specs.Made.{ThingHeld}
use Rattle.step_rows.specs.Read.{RowReadHeld}
use Rattle.step_rows.proofs.Growth.{read_later, kept_held}
use Rattle.step_rows.proofs.lines.put_line.Goals as goal
use Rattle.elab_groups.proofs.open_types.unify_types.Resolved.{on_ok}

pub put_thing-requires-clause-task : goal.put_thing-requires-clause-task
put_thing-requires-clause-task c = task_held_later c.args.store.now c.made_by.new.store c.in_ok-thing.ensures.grows c.args.task.now c.requires.task

pub returns-in_ok-keep-in-Some-clause-read : goal.returns-in_ok-keep-in-Some-clause-read
returns-in_ok-keep-in-Some-clause-read c =
    let s' = c.made_by.new.store in
    let r = c.args.read.now in
    let before = read_later c.args.store.now s' c.in_ok-thing.ensures.grows r c.requires.read in
    let held = subst (λ o. IfSome o (ThingHeld s')) c.in-Some.is c.in_ok-thing.ensures.held in
    on_ok c.push_str.result (RowReadHeld s' c.keep.new.read) (kept_held s' r c.keep.new.read before c.in-Some.thing c.in_ok-keep-in-Some.ensures held)

pub returns-in-None-clause-read : goal.returns-in-None-clause-read
returns-in-None-clause-read c =
    let s' = c.made_by.new.store in
    on_ok c.push_str-in-None.result (RowReadHeld s' c.args.read.now) (read_later c.args.store.now s' c.in_ok-thing.ensures.grows c.args.read.now c.requires.read)
