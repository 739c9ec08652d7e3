use Rattle.tasks.proofs.Growth.{task_held_later}
use Rattle.step_rows.proofs.files.rewrite.Goals as goal

pub returns-in_err-text-in-Ok : goal.returns-in_err-text-in-Ok
returns-in_err-text-in-Ok c = task_held_later c.read_file.new.store c.written_steps.new.store c.written_steps.ensures.grows c.args.task.now c.read_file.ensures.task

pub returns-in-Some : goal.returns-in-Some
returns-in-Some c = task_held_later c.read_file.new.store c.written_steps.new.store c.written_steps.ensures.grows c.args.task.now c.read_file.ensures.task

pub returns-in-Ok : goal.returns-in-Ok
returns-in-Ok c = task_held_later c.read_file.new.store c.written_steps.new.store c.written_steps.ensures.grows c.args.task.now c.read_file.ensures.task
