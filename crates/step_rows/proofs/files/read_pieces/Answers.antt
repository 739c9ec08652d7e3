use Rattle.std.proofs.Common.{[]}
use Rattle.step_rows.proofs.files.read_pieces.Goals as goal

pub loop-piece-init : goal.loop-piece-init
loop-piece-init c = record { task = c.requires; fed = ([], c.new-reader.ensures.fed c.args.store.now c.args.task.now c.args.table.now) }
