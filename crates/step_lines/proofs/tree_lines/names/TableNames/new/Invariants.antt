use Rattle.std.proofs.Common.{◌≡◌, ◌≤◌, ℕ, List, length, drop, slice_get}
use Rattle.std.specs.Option.{option_and_then}
use Rattle.std.specs.HashMap.{get_by}
use Rattle.std.specs.Str.{bytes_eq}
use Rattle.step_lines.specs.tree_lines.Named.{entry_named}
use Rattle.step_lines.proofs.tree_lines.names.TableNames.new.Given as goal

abbrev pub invariant-loop-i : goal.invariant-loop-i
invariant-loop-i l = record {
  within : l.i ≤ length l.table;
  found : (name : List ℕ) → option_and_then (slice_get l.table) (get_by (λ k. bytes_eq name k.items) l.places) ≡ entry_named (drop l.i l.table) name;
}

abbrev pub decreases-loop-i : goal.decreases-loop-i
decreases-loop-i l = l.i
