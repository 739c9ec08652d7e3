use Rattle.std.proofs.Common.{◌≡◌, ◌++◌, ◌-◌, drop}
use Rattle.std.specs.Option.{option_map}
use Rattle.trees.specs.Node.{Grows}
use Rattle.trees.specs.binders.Visits.{HoldTypes}
use Rattle.tasks.specs.Meaning.{trees_at}
use Rattle.step_lines.specs.tree_lines.Words.{each}
use Rattle.step_lines.specs.tree_lines.Named.{entry_type}
use Rattle.step_lines.proofs.tree_lines.names.+type_of_entry.Given as goal

abbrev pub invariant-loop-under : goal.invariant-loop-under
invariant-loop-under l = record {
  grows : Grows l.fn.store l.store;
  held : HoldTypes l.store l.types.items;
  trees : option_map (λ ys. trees_at l.store l.types.items ++ ys) (each (λ k. entry_type (l.most - 1) l.table k) (drop l.under-index l.under-items)) ≡ each (λ k. entry_type (l.most - 1) l.table k) l.under-items;
}

abbrev pub decreases-type_of_entry : goal.decreases-type_of_entry
decreases-type_of_entry l = l.most
