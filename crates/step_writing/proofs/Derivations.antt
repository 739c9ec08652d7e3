-- The conditions of files that are written by a task's own table, and by one without a tallest tree.
use Rattle.std.proofs.Common.{◌≡◌, ◌≤◌, ◌^◌, List, length, None, sym, subst}
use Rattle.kernel.specs.trees.Tree.{Tree}
use Rattle.kernel.specs.tasks.Task.{TaskTree}
use Rattle.kernel.specs.tasks.Valid.{IsValid}
use Rattle.name_tables.specs.declared.name_entries.names.NameEntry.{NameEntry}
use Rattle.kernel.specs.rules.Trees.{StepTree}
use Rattle.kernel.specs.Right.{AreRight}
use Rattle.name_tables.specs.Tables.{task_names, NamesDiffer}
use Rattle.kernel.specs.tasks.Words.{NamesAreWords}
use Rattle.step_writing.specs.Named.{AreWords, AreNamed, IsLow, AreLow}
use Rattle.step_writing.proofs.TaskNames.{steps_named, names_words}

no_tallest : (e : Tree) → IsLow None e
no_tallest e n h = absurd (cc)

pub no_low : (steps : List StepTree) → AreLow None steps
no_low steps k d l i x m = no_tallest _

module _ (t : TaskTree) (table : List NameEntry) (is : table ≡ task_names t) where
  pub table_words : NamesAreWords t → length table ≤ 2 ^ 64 → AreWords table
  table_words a small = subst AreWords (sym is) (names_words t a (subst (λ (l : List NameEntry). length l ≤ 2 ^ 64) is small))

  pub table_named : IsValid t → NamesDiffer table → (steps : List StepTree) → AreRight t steps → AreNamed table steps
  table_named valid differ steps right = subst (λ (l : List NameEntry). AreNamed l steps) (sym is) (steps_named t valid (subst NamesDiffer is differ) steps right)
