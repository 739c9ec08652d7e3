use Rattle.surface.proofs.unparse.Common.{drop, terminals, scoped}
use Rattle.surface.proofs.unparse.parts.push_scopes.Given as goal
use Rattle.surface.specs.unparse.Putting.{Leaves}

abbrev pub invariant-loop-scope : goal.invariant-loop-scope
invariant-loop-scope l = Leaves l.fn.out l.out (terminals (scoped (drop l._scope-index l.of))) (terminals (scoped l.of))
