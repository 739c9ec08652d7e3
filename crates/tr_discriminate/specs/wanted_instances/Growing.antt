-- Sets of instances that go on, one where the other ends, and the nodes of what is wanted at them.
use Rattle.std.specs.Prelude.{◌≡◌, ℕ, List, ◌++◌, sum_by}
use Rattle.tasks.specs.trees.Tree.{size}
use Rattle.tasks.specs.Task.{PropositionTree}
use Rattle.name_tables.specs.Occurrences.{Occurrence}
use Rattle.tr_discriminate.specs.wanted_instances.Wanted.{wanted_formulas}

-- a list goes on where another ends
pub record GoesOn {A : Type 0} (xs ys : List A) : Type 0 where
  pub more : List A
  pub is : ys ≡ xs ++ more

-- the nodes of what is wanted of a proposition
abbrev pub wanted_nodes : List Occurrence → PropositionTree → ℕ
wanted_nodes s p = sum_by size (wanted_formulas s p)
