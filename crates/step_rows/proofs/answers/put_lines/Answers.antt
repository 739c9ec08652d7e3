use Rattle.tasks.proofs.Growth.{task_held_later}
use Rattle.step_rows.proofs.answers.put_lines.Goals as goal

pub loop-line-preserved : goal.loop-line-preserved
loop-line-preserved c = record {
  task = task_held_later c.loop-line.store c.put_line.new.store c.in_ok-put_line.ensures.grows c.args.task.now c.loop-line.invariant.task;
  read = c.in_ok-put_line.ensures.read;
}
