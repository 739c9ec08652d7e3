use Rattle.std.proofs.Common.{All}
use Rattle.tasks.specs.Meaning.{SymbolHeld}
use Rattle.problem_rows.proofs.held.symbols.Given as goal

abbrev pub invariant-loop-line : goal.invariant-loop-line
invariant-loop-line l = All (SymbolHeld l.store) l.all
