-- Names by what they stand for: a symbol, whole or at types.
use Rattle.std.specs.Prelude.{◌≡◌, ℕ, ◌<◌, nat_eq, ◌&&◌, Bool, true, false, List, [], length, Some, IsSome, slice_get}
use Rattle.std.specs.HashMap.{HashMap, get}
use Rattle.tasks.specs.trees.declared.TermId.{TermId}
use Rattle.tasks.specs.trees.Tree.{Tree, Leaf, HEnd}
use Rattle.tasks.specs.trees.Node.{tree_at, Holds}
use Rattle.name_tables.specs.declared.name_entries.names.NameOf.{NameOf}
use Rattle.name_tables.specs.declared.name_entries.names.NameOf.TheVariants.{Int, Rigid, Symbol}
use Rattle.name_tables.specs.declared.name_entries.names.NameEntry.{NameEntry}
use Rattle.step_lines.specs.tree_lines.Named.{NameMeaning, meaning, meaning_by, cells}
use Rattle.step_writing.specs.declared.tree_writing.spelling.SymbolNames.{SymbolNames}

-- the types at which a name stands: none where it is whole
abbrev pub types_under : Bool → List Tree → List Tree
types_under true types = []
types_under false types = types

-- a name stands for a symbol, whole or at these types
abbrev pub Spells : List NameEntry → NameOf → List Tree → List ℕ → Bool → Type 0
Spells table symbol types name whole =
    meaning table name ≡ Some (meaning_by symbol (types_under whole types))

-- a table has a name for a symbol at types: whole, or at these
pub record IsSpelt (table : List NameEntry) (symbol : NameOf) (types : List Tree) : Type 0 where
  pub name : List ℕ
  pub whole : Bool
  pub spells : Spells table symbol types name whole

-- what is looked up: the kind of the symbol, its entry, and the number of the list of types
abbrev pub Key : Type 0
Key = ℕ × ℕ × ℕ

abbrev pub key_of : NameOf → ℕ → Key
key_of Int list = (0, 0, list)
key_of (Rigid k) list = (1, k, list)
key_of (Symbol k) list = (2, k, list)

abbrev pub same_key : Key → Key → Bool
same_key p q = (nat_eq p.0 q.0 && nat_eq p.1 q.1) && nat_eq p.2 q.2

module _ {S : Type 0} (s : List Tree) (table : List NameEntry) (places : HashMap Key ℕ S) where
  -- what a place is noted for: its entry's name stands for a symbol at the types of a list
  pub record IsPlaceNoted (q : Key) (place : ℕ) : Type 0 where
    pub entry : NameEntry
    pub there : slice_get table place ≡ Some entry
    pub stands_for : NameMeaning
    pub means : meaning table entry.name ≡ Some stands_for
    pub list : TermId
    pub held : Holds s list
    pub types : tree_at s list ≡ cells stands_for.types
    pub key : q ≡ key_of stands_for.symbol list.0

  -- some place is noted for a symbol at types
  pub record IsReached (m : NameMeaning) : Type 0 where
    pub list : TermId
    pub held : Holds s list
    pub types : tree_at s list ≡ cells m.types
    pub found : IsSome (get same_key places (key_of m.symbol list.0))

  -- so many entries are noted
  pub record AreNoted (n : ℕ) : Type 0 where
    pub sound : (q : Key) (place : ℕ) → get same_key places q ≡ Some place → IsPlaceNoted q place
    pub reached : (i : ℕ) (e : NameEntry) (m : NameMeaning) → i < n → slice_get table i ≡ Some e
        → meaning table e.name ≡ Some m → IsReached m

-- the names of a table, by symbols and lists of types
pub record AreNamesOf (s : List Tree) (table : List NameEntry) (n : SymbolNames) : Type 0 where
  pub noted : AreNoted s table n.places (length table)
  pub held : Holds s n.end
  pub none : tree_at s n.end ≡ Leaf HEnd
