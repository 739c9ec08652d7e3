use Rattle.drivers.proofs.driver_files.Naming.{folder-ends}
use Rattle.drivers.proofs.driver_files.names.folder_end.Goals as goal

pub loop-i-init : goal.loop-i-init
loop-i-init c = folder-ends c.args.name.now
