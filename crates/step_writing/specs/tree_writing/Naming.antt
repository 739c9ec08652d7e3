-- A symbol written by its name, with the numbers of the types at which the name isn't; and which
-- types can be written.
use Rattle.std.specs.Prelude.{◌≡◌, ℕ, zero, suc, Bool, true, false, List, [], ◌∷◌, ◌++◌, All, Option, Some}
use Rattle.tasks.specs.trees.declared.Sort.TheVariants.{Kind}
use Rattle.tasks.specs.trees.Tree.{Tree, Leaf, One, Head, HTyRigid, HTyApp}
use Rattle.tasks.specs.Typing.{members}
use Rattle.name_tables.specs.declared.name_entries.names.NameOf.{NameOf}
use Rattle.name_tables.specs.declared.name_entries.names.NameOf.TheVariants.{Int, Rigid, Symbol}
use Rattle.name_tables.specs.declared.name_entries.names.NameEntry.{NameEntry}
use Rattle.step_lines.specs.tree_lines.Words.{LineWord, number, each}
use Rattle.step_writing.specs.declared.tree_writing.naming.Source.{Source}
use Rattle.step_writing.specs.tree_writing.Spelt.{Spells, IsSpelt, AreNamesOf}
use Rattle.step_writing.specs.tree_writing.Referring.{HasLine, ReferAll}

-- the types whose numbers follow a name: all where the symbol is whole under it
abbrev pub types_after : Bool → List Tree → List Tree
types_after true types = types
types_after false types = []

-- a symbol's name comes at the end, with the words that refer to the types at which the name isn't
pub record PushesSymbol (s : List Tree) (table : List NameEntry) (lines : List (Option ℕ))
    (symbol : NameOf) (types : List Tree) (old new : List LineWord) : Type 0 where
  pub name : LineWord
  pub whole : Bool
  pub more : List LineWord
  pub ns : List ℕ
  pub is : new ≡ old ++ name ∷ more
  pub spells : Spells table symbol types name whole
  pub numbers : each number more ≡ Some ns
  pub refer : ReferAll s lines Kind ns (types_after whole types)

-- what a type symbol is in a table: `int` is the symbol 0
abbrev pub type_name : ℕ → NameOf
type_name zero = Int
type_name (suc k) = Symbol (suc k)

abbrev pub leaf_spelt : List NameEntry → Head → Type 0
leaf_spelt table (HTyRigid k) = IsSpelt table (Rigid k) []
leaf_spelt table _ = ⊥

abbrev pub one_spelt : List NameEntry → Head → Tree → Type 0
one_spelt table (HTyApp k) a = IsSpelt table (type_name k) (members a)
one_spelt table _ a = ⊥

-- a type without schematic type variables at its top, whose symbol has a name
abbrev pub TypeSpelt : List NameEntry → Tree → Type 0
TypeSpelt table (Leaf h) = leaf_spelt table h
TypeSpelt table (One h a) = one_spelt table h a
TypeSpelt table _ = ⊥

-- each member of a type's list has a line
abbrev pub TypeLines : List Tree → List (Option ℕ) → Tree → Type 0
TypeLines s lines (One h a) = All (HasLine s lines) (members a)
TypeLines s lines _ = Unit {0}

-- what a line is written from is held
abbrev pub SourceHeld : Source → Type 0
SourceHeld x = AreNamesOf x.store.now x.table.now x.names.now
