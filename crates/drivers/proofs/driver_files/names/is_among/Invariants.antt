use Rattle.std.proofs.Common.{◌≡◌, drop}
use Rattle.drivers.specs.driver_files.Reading as spec
use Rattle.drivers.proofs.driver_files.names.is_among.Given as goal

abbrev pub invariant-loop-its : goal.invariant-loop-its
invariant-loop-its l = spec.is_named_among (drop l.its-index l.names) l.name ≡ spec.is_named_among l.names l.name
