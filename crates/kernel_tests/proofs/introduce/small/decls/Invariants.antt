use Rattle.std.proofs.Common.{All}
use Rattle.tasks.specs.Meaning.{DeclHeld}
use Rattle.kernel_tests.proofs.introduce.small.decls.Given as goal

abbrev pub invariant-loop-theory : goal.invariant-loop-theory
invariant-loop-theory g l = All (DeclHeld l.store) l.all
