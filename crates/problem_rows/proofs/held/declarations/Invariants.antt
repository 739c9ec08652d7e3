use Rattle.std.proofs.Common.{All}
use Rattle.tasks.specs.Meaning.{DeclHeld}
use Rattle.problem_rows.proofs.held.declarations.Given as goal

abbrev pub invariant-loop-letter : goal.invariant-loop-letter
invariant-loop-letter l = All (DeclHeld l.store) l.all
