use Rattle.std.proofs.Common.{All}
use Rattle.tasks.specs.Meaning.{DeclHeld}
use Rattle.kernel_tests.proofs.small.decls.Given as goal

abbrev pub invariant-loop-k : goal.invariant-loop-k
invariant-loop-k g l = All (DeclHeld l.store) l.all
