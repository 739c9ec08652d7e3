use Rattle.std.proofs.Common.{◌≡◌, ◌+◌, ◌-◌, ℕ, List, [], length, get_or, All}
use Rattle.trees.specs.Tree.{Tree}
use Rattle.name_tables.specs.Seen.{KeysHeld}
use Rattle.name_tables.proofs.things.fill_groups.Given as goal

abbrev pub invariant-filling : goal.invariant-filling
invariant-filling l = ((s : List Tree) → All (KeysHeld s) l.initial.groups.items → All (KeysHeld s) l.groups.items) × ((k : ℕ) → get_or l.groups.items k [] ≡ get_or l.initial.groups.items k [])

abbrev pub decreases-filling : goal.decreases-filling
decreases-filling l = l.symbol + 1 - length l.groups.items
