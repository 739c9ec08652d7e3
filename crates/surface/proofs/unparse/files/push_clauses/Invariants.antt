use Rattle.surface.proofs.unparse.Common.{drop, map, terminals, clause_list, clause_tail, clause_of}
use Rattle.surface.proofs.unparse.files.push_clauses.Given as goal
use Rattle.surface.specs.unparse.Putting.{Leaves}

abbrev pub invariant-loop-clause : goal.invariant-loop-clause
invariant-loop-clause l = Leaves l.fn.out l.out (terminals (clause_tail (map clause_of (drop l.clause-index l.rest)))) (terminals (clause_list (map clause_of l.fn.of)))
