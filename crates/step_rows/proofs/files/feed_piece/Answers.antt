use Rattle.std.proofs.Common.{◌++◌}
use Rattle.tasks.proofs.Growth.{task_held_later}
use Rattle.step_rows.proofs.files.feed_piece.Goals as goal

pub returns-clause-task : goal.returns-clause-task
returns-clause-task c = task_held_later c.args.store.now c.feed.new.store c.feed.ensures.grows c.args.task.now c.requires.task

pub returns-clause-fed : goal.returns-clause-fed
returns-clause-fed c = (c.requires.fed.0 ++ c.args.piece.now, c.feed.ensures.fed c.requires.fed.0 c.requires.fed.1)
