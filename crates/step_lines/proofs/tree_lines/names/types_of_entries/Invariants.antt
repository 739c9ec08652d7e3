use Rattle.std.proofs.Common.{◌≡◌, ◌++◌, drop, length}
use Rattle.std.specs.Option.{option_map}
use Rattle.trees.specs.Node.{Grows}
use Rattle.trees.specs.binders.Visits.{HoldTypes}
use Rattle.tasks.specs.Meaning.{trees_at}
use Rattle.step_lines.specs.tree_lines.Words.{each}
use Rattle.step_lines.specs.tree_lines.Named.{entry_type, entry_types}
use Rattle.step_lines.proofs.tree_lines.names.types_of_entries.Given as goal

abbrev pub invariant-loop-place : goal.invariant-loop-place
invariant-loop-place l = record {
  grows : Grows l.fn.store l.store;
  held : HoldTypes l.store l.types.items;
  trees : option_map (λ ys. trees_at l.store l.types.items ++ ys) (each (λ k. entry_type (length l.table) l.table k) (drop l.place-index l.places)) ≡ entry_types l.table l.places;
}
