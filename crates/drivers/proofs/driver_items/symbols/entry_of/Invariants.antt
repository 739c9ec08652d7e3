use Rattle.std.proofs.Common.{◌≡◌, drop}
use Rattle.drivers.specs.driver_items.Symbols.{target_or_later, entry_from}
use Rattle.drivers.proofs.driver_items.symbols.entry_of.Given as goal

abbrev pub invariant-loop-entry : goal.invariant-loop-entry
invariant-loop-entry l = target_or_later l.found (entry_from l.path l.kind l.name l.entry (drop l.entry l.symbols)) ≡ entry_from l.path l.kind l.name 0 l.symbols
