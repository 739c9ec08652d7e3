use Rattle.surface.proofs.unparse.Common.{drop, map, terminals, param_row, param_of}
use Rattle.surface.proofs.unparse.files.push_params.Given as goal
use Rattle.surface.specs.unparse.Putting.{Leaves}

abbrev pub invariant-loop-param : goal.invariant-loop-param
invariant-loop-param l = Leaves l.fn.out l.out (terminals (param_row (map param_of (drop l.param-index l.of)))) (terminals (param_row (map param_of l.of)))
