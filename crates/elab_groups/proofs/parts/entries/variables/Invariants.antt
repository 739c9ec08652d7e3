use Rattle.std.proofs.Common.{◌≡◌, All}
use Rattle.tasks.specs.trees.Node.{Grows}
use Rattle.tasks.specs.Meaning.{trees_at}
use Rattle.tasks.specs.Equations.{type_variables}
use Rattle.open_types.specs.Drafts.{HoldsType}
use Rattle.elab_groups.proofs.parts.entries.variables.Given as goal

abbrev pub invariant-loop-number : goal.invariant-loop-number
invariant-loop-number l = Grows l.fn.store l.store × All (HoldsType l.store) l.types.items × (trees_at l.store l.types.items ≡ type_variables 0 l.number)
