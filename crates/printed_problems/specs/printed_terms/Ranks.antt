-- The sorts of the arguments and results of the symbols in a table, by their entries in the
-- signature. A type variable of such an entry stands for the type at a place of the table, and a
-- type that has some is found in the table by the places of its arguments.
use Rattle.std.specs.Prelude.{ℕ, ◌==◌, ◌&&◌, Bool, List, [], ◌∷◌, ◌++◌, map, length, get_or, slice_get, Option, Some, None}
use Rattle.std.specs.List.{flat_map, position_or_len}
use Rattle.std.specs.Option.{option_map}
use Rattle.std.specs.Str.{bytes_eq}
use Rattle.trees.specs.Tree.{Tree, Leaf, One, Two, Three, Head, HTyVar, HTyRigid, HTyApp, HCell}
use Rattle.name_tables.specs.declared.name_entries.names.NameOf.{NameOf}
use Rattle.name_tables.specs.declared.name_entries.names.NameOf.TheVariants.{Int, Rigid, Symbol}
use Rattle.name_tables.specs.declared.name_entries.names.NameEntry.{NameEntry}
use Rattle.tasks.specs.Task.{SymbolTree, symbol_or}
use Rattle.name_tables.specs.Occurrences.{Occurrence}
use Rattle.printed_problems.specs.declared.printed_terms.ranks.Rank.{Rank}
use Rattle.printed_problems.specs.printed_terms.Texts.{Printing, sort_by, printed_sort}

-- the entry in the signature of what a name stands for
abbrev pub entry_number : NameOf → ℕ
entry_number Int = 0
entry_number (Rigid k) = k
entry_number (Symbol k) = k

-- whether a name stands for a symbol at the types of these places
abbrev pub is_for : ℕ → List ℕ → NameEntry → Bool
is_for k types e = (entry_number e.symbol == k) && bytes_eq e.types types

-- its place, or their number
abbrev pub place_for : List NameEntry → ℕ → List ℕ → ℕ
place_for names k types = position_or_len (is_for k types) names

abbrev pub leaf_places : List NameEntry → List ℕ → Head → List ℕ
leaf_places names types (HTyVar j) = get_or types j (length names) ∷ []
leaf_places names types (HTyRigid k) = place_for names k [] ∷ []
leaf_places names types _ = []

abbrev pub one_places : List NameEntry → Head → List ℕ → List ℕ
one_places names (HTyApp k) args = place_for names k args ∷ []
one_places names _ args = []

abbrev pub two_places : Head → List ℕ → List ℕ → List ℕ
two_places HCell first more = first ++ more
two_places _ first more = []

-- the places of a type, or of the members of a list of types, whose variables stand for the types
-- of these places
abbrev pub type_places : List NameEntry → List ℕ → Tree → List ℕ
type_places names types (Leaf h) = leaf_places names types h
type_places names types (One h a) = one_places names h (type_places names types a)
type_places names types (Two h a b) =
    two_places h (type_places names types a) (type_places names types b)
type_places names types (Three h a b c) = []

abbrev pub sort_of_thing : Printing → ℕ → Option Occurrence → List ℕ
sort_of_thing p place None = []
sort_of_thing p place (Some o) = sort_by p o.symbol place (printed_sort p o.types).members

-- the sort of the type at a place
abbrev pub sort_at : Printing → ℕ → List ℕ
sort_at p place = sort_of_thing p place (slice_get p.things place)

-- the places of the argument types of a symbol, and that of its result type, which a predicate has
-- none of (SMT-LIB 2.6, "rank")
abbrev pub rank_by : List NameEntry → List ℕ → List Tree → Option Tree → Rank
rank_by names types args result = record {
  args = flat_map (type_places names types) args;
  result = option_map (λ type. get_or (type_places names types type) 0 (length names)) result;
}

abbrev pub rank_in : List NameEntry → List ℕ → SymbolTree → Rank
rank_in names types e = rank_by names types e.args e.result

-- that of what a name stands for, under the entries of a signature
abbrev pub rank_of : List NameEntry → List SymbolTree → NameEntry → Rank
rank_of names symbols e = rank_in names e.types (symbol_or symbols (entry_number e.symbol))

-- the sorts at places
abbrev pub sorts_at : Printing → List ℕ → List (List ℕ)
sorts_at p places = map (sort_at p) places
