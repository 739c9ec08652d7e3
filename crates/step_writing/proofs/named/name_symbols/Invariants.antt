use Rattle.std.proofs.Common.{All, take}
use Rattle.kernel.specs.rules.Meaning.{steps_at}
use Rattle.step_writing.specs.Named.{SymbolsNamed}
use Rattle.step_writing.proofs.named.name_symbols.Given as goal

abbrev pub invariant-loop-step : goal.invariant-loop-step
invariant-loop-step l = All (SymbolsNamed l.table) (take l.step-index (steps_at l.store l.steps))
