use Rattle.std.proofs.Common.{◌≡◌, drop, length}
use Rattle.drivers.specs.driver_files.Reading.{folder}
use Rattle.drivers.proofs.driver_files.Naming.{ends}
use Rattle.drivers.proofs.driver_files.names.folder_end.Given as goal

abbrev pub invariant-loop-i : goal.invariant-loop-i
invariant-loop-i l = ends l.end l.i (drop l.i l.name) ≡ length (folder l.name)
