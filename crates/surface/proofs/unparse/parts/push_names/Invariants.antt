use Rattle.surface.proofs.unparse.Common.{drop, terminals, name_row}
use Rattle.surface.proofs.unparse.parts.push_names.Given as goal
use Rattle.surface.specs.unparse.Putting.{Leaves}

abbrev pub invariant-loop-name : goal.invariant-loop-name
invariant-loop-name l = Leaves l.fn.out l.out (terminals (name_row (drop l._name-index l.names))) (terminals (name_row l.names))
