use Rattle.std.proofs.Common.{◌≡◌, false, [], drop}
use Rattle.drivers.specs.driver_items.Templates.{pieces_from, pieces_onto}
use Rattle.drivers.proofs.driver_items.templates.pieces_of.Given as goal

abbrev pub invariant-loop-byte : goal.invariant-loop-byte
invariant-loop-byte l = pieces_onto l.pieces (pieces_from l.percent l.literal.items (drop l.byte-index l.template)) ≡ pieces_from false [] l.template
