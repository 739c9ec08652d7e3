-- What the names of a table stand for: a symbol, and the types at which it is there.
use Rattle.std.specs.Prelude.{ℕ, zero, suc, if◌then◌else◌, List, [], ◌∷◌, length, Option, Some, None, slice_get}
use Rattle.std.specs.Option.{option_and_then, option_map}
use Rattle.std.specs.Str.{bytes_eq}
use Rattle.trees.specs.Tree.{Tree, Leaf, One, Two, HEnd, HCell, HTyApp, HTyRigid}
use Rattle.name_tables.specs.declared.name_entries.names.NameOf.{NameOf}
use Rattle.name_tables.specs.declared.name_entries.names.NameOf.TheVariants.{Int, Rigid, Symbol}
use Rattle.name_tables.specs.declared.name_entries.names.NameEntry.{NameEntry}
use Rattle.step_lines.specs.tree_lines.Words.{each}
pub use Rattle.tasks.specs.Equations.{cells}

-- the type of a symbol at types
abbrev pub named_type_at : NameOf → List Tree → Option Tree
named_type_at Int types = Some (One (HTyApp 0) (cells types))
named_type_at (Rigid k) [] = Some (Leaf (HTyRigid k))
named_type_at (Rigid k) (ty ∷ types) = None
named_type_at (Symbol k) types = Some (One (HTyApp k) (cells types))

-- the type that the entry at a place stands for, by so many entries one under another at most
abbrev pub entry_type : ℕ → List NameEntry → ℕ → Option Tree
entry_type zero names place = None
entry_type (suc n) names place =
    option_and_then (λ e. option_and_then (named_type_at e.symbol)
    (each (λ k. entry_type n names k) e.types)) (slice_get names place)

-- the types that the entries at places stand for: one under another no more than all entries
abbrev pub entry_types : List NameEntry → List ℕ → Option (List Tree)
entry_types names places = each (λ k. entry_type (length names) names k) places

-- what a name stands for
pub record NameMeaning : Type 0 where
  pub symbol : NameOf
  pub types : List Tree

abbrev pub meaning_by : NameOf → List Tree → NameMeaning
meaning_by symbol types = record { symbol = symbol; types = types }

-- the first entry with a name
abbrev pub entry_named : List NameEntry → List ℕ → Option NameEntry
entry_named [] name = None
entry_named (n ∷ ns) name = if bytes_eq n.name name then Some n else entry_named ns name

abbrev pub entry_meaning : List NameEntry → NameEntry → Option NameMeaning
entry_meaning names e = option_map (meaning_by e.symbol) (entry_types names e.types)

abbrev pub meaning : List NameEntry → List ℕ → Option NameMeaning
meaning names name = option_and_then (entry_meaning names) (entry_named names name)
