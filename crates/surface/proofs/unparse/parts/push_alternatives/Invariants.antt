use Rattle.surface.proofs.unparse.Common.{drop, terminals, alternative_tail, alternative_list, alternatives}
use Rattle.surface.proofs.unparse.parts.push_alternatives.Given as goal
use Rattle.surface.specs.unparse.Putting.{Leaves}

abbrev pub invariant-loop-ps : goal.invariant-loop-ps
invariant-loop-ps l = Leaves l.fn.out l.out (terminals (alternative_tail (alternatives (drop l.ps-index l.rest)))) (terminals (alternative_list (alternatives l.fn.of)))
