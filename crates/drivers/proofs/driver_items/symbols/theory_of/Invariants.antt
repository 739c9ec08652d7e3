use Rattle.std.proofs.Common.{◌≡◌, drop}
use Rattle.drivers.specs.driver_items.Symbols.{theory_with_path}
use Rattle.drivers.proofs.driver_items.symbols.theory_of.Given as goal

abbrev pub invariant-loop-theory : goal.invariant-loop-theory
invariant-loop-theory l = theory_with_path l.path (drop l.theory-index l.theories) ≡ theory_with_path l.path l.theories
