-- What code makes of a line, by numbers in a store.
use Rattle.std.specs.Prelude.{◌≡◌, ℕ, List, map, Option, Some, None, All, IfSome, slice_get}
use Rattle.std.specs.Option.{option_and_then}
use Rattle.std.specs.HashMap.{get_by}
use Rattle.std.specs.Str.{bytes_eq}
use Rattle.trees.specs.declared.TermId.{TermId}
use Rattle.trees.specs.declared.Sort.TheVariants.{Kind}
use Rattle.trees.specs.Tree.{Tree, Two, HArm}
use Rattle.trees.specs.Node.{tree_at, Holds}
use Rattle.trees.specs.Sorts.{WellSorted, sort_of}
use Rattle.trees.specs.binders.Visits.{HoldTypes}
use Rattle.tasks.specs.Meaning.{trees_at, symbol_at, TaskHeld}
use Rattle.name_tables.specs.declared.name_entries.names.NameEntry.{NameEntry}
use Rattle.step_lines.specs.declared.tree_lines.names.TableNames.{TableNames}
use Rattle.step_lines.specs.declared.tree_lines.names.Named.{Named}
use Rattle.step_lines.specs.declared.tree_lines.known.EarlierLines.{EarlierLines}
use Rattle.step_lines.specs.declared.tree_lines.uses.Applied.{Applied}
use Rattle.step_lines.specs.tree_lines.Named.{NameMeaning, entry_named}
use Rattle.step_lines.specs.tree_lines.Lines.{Earlier, SymbolUse}

-- The number of the tree that words make. None is answered only where they make no tree, or one
-- whose parts don't fit.
abbrev pub IsTreeMade : List Tree → Option Tree → Option TermId → Type 0
IsTreeMade s made (Some id) = (made ≡ Some (tree_at s id)) × Holds s id
IsTreeMade s made None = (e : Tree) → made ≡ Some e → WellSorted e → ⊥

-- the number of a type
abbrev pub IsTypeHeld : List Tree → TermId → Type 0
IsTypeHeld s id = Holds s id × (sort_of (tree_at s id) ≡ Kind)

-- the places of the entries by their names
abbrev pub IsNamesOf : TableNames → List NameEntry → Type 0
IsNamesOf n table = (name : List ℕ)
    → option_and_then (slice_get table) (get_by (λ k. bytes_eq name k.items) n.places)
    ≡ entry_named table name

-- what a name stands for
abbrev pub named_meaning : List Tree → Named → NameMeaning
named_meaning s n = record { symbol = n.symbol; types = trees_at s n.types.items }

abbrev pub earlier_at : List Tree → EarlierLines → Earlier
earlier_at s x = record {
  types = trees_at s x.types.now;
  patterns =
      trees_at s x.patterns.now;
  expressions = trees_at s x.expressions.now;
}

-- what is known before a line is held
pub record KnownHeld (s : List Tree) (x : EarlierLines) : Type 0 where
  pub task : TaskHeld s x.task.now
  pub names : IsNamesOf x.names.now x.table.now
  pub types : HoldTypes s x.types.now
  pub patterns : All (Holds s) x.patterns.now
  pub expressions : All (Holds s) x.expressions.now

abbrev pub use_at : List Tree → Applied → SymbolUse
use_at s u = record {
  symbol = u.symbol;
  entry = symbol_at s u.info.now;
  types =
      trees_at s u.types.items;
  parts = trees_at s u.parts.items;
}

pub record UseHeld (s : List Tree) (u : Applied) : Type 0 where
  pub result : IfSome u.info.now.result (Holds s)
  pub types : HoldTypes s u.types.items
  pub parts : All (Holds s) u.parts.items

-- the numbers of the trees of a use
abbrev pub AreTrees : List Tree → Option (Tree × Tree × Tree)
    → Option (TermId × TermId × TermId) → Type 0
AreTrees s made (Some p) = (made ≡ Some (tree_at s p.0, tree_at s p.1, tree_at s p.2)) × Holds s p.0
    × Holds s p.1 × Holds s p.2
AreTrees s made None = (q : Tree × Tree × Tree) → made ≡ Some q → WellSorted q.1 → ⊥

-- the trees of pairs of numbers
abbrev pub pairs_in : List Tree → List (TermId × TermId) → List (Tree × Tree)
pairs_in s ps = map (λ p. (tree_at s p.0, tree_at s p.1)) ps

abbrev pub PairsHeld : List Tree → List (TermId × TermId) → Type 0
PairsHeld s ps = All (λ p. Holds s p.0 × Holds s p.1) ps

-- a branch, by the numbers of its pattern and its body
abbrev pub branch_at : List Tree → TermId × TermId → Tree
branch_at s p = Two HArm (tree_at s p.0) (tree_at s p.1)
