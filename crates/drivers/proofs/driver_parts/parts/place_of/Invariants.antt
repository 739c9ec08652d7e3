use Rattle.drivers.proofs.driver_parts.Placing.{NoneBefore}
use Rattle.drivers.proofs.driver_parts.parts.place_of.Given as goal

abbrev pub invariant-loop-place : goal.invariant-loop-place
invariant-loop-place l = NoneBefore l.templates l.entry l.place
