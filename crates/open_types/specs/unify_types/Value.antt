-- The value that a solution gives an unknown.
use Rattle.std.specs.Prelude.{ℕ, nat_eq, Option}
use Rattle.std.specs.HashMap.{get}
use Rattle.trees.specs.declared.TermId.{TermId}
use Rattle.open_types.specs.declared.unify_types.Solution.{Solution}

abbrev pub value_of : Solution → ℕ → Option TermId
value_of solution u = get nat_eq solution.values u
