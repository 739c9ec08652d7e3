use Rattle.open_types.specs.unify_types.Solution.{SolvesFirst}
use Rattle.open_types.proofs.unify_types.solve_types.Given as goal

abbrev pub invariant-loop-k : goal.invariant-loop-k
invariant-loop-k l = SolvesFirst l.rigid_vars l.fn.store l.equations l.k l.store l.bindings
