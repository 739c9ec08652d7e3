use Rattle.surface.proofs.unparse.Common.{drop, terminals, variable_row}
use Rattle.surface.proofs.unparse.files.push_variables.Given as goal
use Rattle.surface.specs.unparse.Putting.{Leaves}

abbrev pub invariant-loop-var : goal.invariant-loop-var
invariant-loop-var l = Leaves l.fn.out l.out (terminals (variable_row (drop l._var-index l.vars))) (terminals (variable_row l.vars))
