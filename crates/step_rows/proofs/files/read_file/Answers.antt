use Rattle.std.proofs.Common.{[]}
use Rattle.step_rows.proofs.files.read_file.Goals as goal

pub feed_piece-requires-clause-fed : goal.feed_piece-requires-clause-fed
feed_piece-requires-clause-fed c = ([], c.new-reader.ensures.fed c.args.store.now c.args.task.now c.args.table.now)
