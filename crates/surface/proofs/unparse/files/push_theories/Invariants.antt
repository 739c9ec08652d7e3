use Rattle.surface.proofs.unparse.Common.{drop, map, terminals, write_file, theory_of}
use Rattle.surface.proofs.unparse.files.push_theories.Given as goal
use Rattle.surface.specs.unparse.Putting.{Leaves}

abbrev pub invariant-loop-theory : goal.invariant-loop-theory
invariant-loop-theory l = Leaves l.fn.out l.out (terminals (write_file (map theory_of (drop l.theory-index l.of)))) (terminals (write_file (map theory_of l.of)))
