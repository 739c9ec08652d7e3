-- Name tables. A problem's has `int`, then the goal's type variables that occur, then, in the order
-- of the declarations, each symbol at the ground types at which it occurs, by first appearance; the
-- symbols of int.Int are in it wherever they are declared. A task's has all symbols, each whole.
use Rattle.std.specs.Prelude.{◌≢◌, ℕ, ◌+◌, ◌&&◌, ◌||◌, ◌==◌, Bool, true, false, not, if◌then◌else◌, List, [], ◌∷◌, ◌++◌, map, filter, AllPairs, Option, Some, None}
use Rattle.std.specs.List.{flat_map, list_any, position_or_len}
use Rattle.trees.specs.Tree.{Tree, Leaf, One, Two, Three, Head, HTyApp, HTyRigid, above_ty_vars}
use Rattle.trees.specs.declared.ints.Ints.{Ints}
use Rattle.linear_leaf.specs.Valuations.{same_tree}
use Rattle.tasks.specs.Task.{TaskTree, symbol_or, declared}
use Rattle.tasks.specs.Typing.{members}
use Rattle.name_tables.specs.declared.name_entries.names.NameOf.{NameOf}
use Rattle.name_tables.specs.declared.name_entries.names.NameOf.TheVariants.{Int, Rigid, Symbol}
use Rattle.name_tables.specs.declared.name_entries.names.NameEntry.{NameEntry}
use Rattle.name_tables.specs.Occurrences.{Occurrence, occurrence, whole_occurrence, task_occurrences}
use Rattle.name_tables.specs.Spelling.{name_at_place}

abbrev pub is_same : Occurrence → Occurrence → Bool
is_same o p = (o.symbol == p.symbol) && same_tree o.types p.types

-- each once, at its first appearance
abbrev pub distinct : List Occurrence → List Occurrence
distinct [] = []
distinct (o ∷ os) = o ∷ filter (λ p. not (is_same o p)) (distinct os)

abbrev pub is_in : ℕ → List ℕ → Bool
is_in k ks = list_any (λ j. j == k) ks

abbrev pub symbols_of_ints : Ints → List ℕ
symbols_of_ints z = z.neg ∷ z.add ∷ z.sub ∷ z.mul ∷ z.lt ∷ z.le ∷ z.gt ∷ z.ge ∷ []

abbrev pub is_of_ints : Option Ints → ℕ → Bool
is_of_ints None k = false
is_of_ints (Some z) k = is_in k (symbols_of_ints z)

-- `int`, or a symbol of int.Int
abbrev pub is_interpreted : Option Ints → ℕ → Bool
is_interpreted ints k = (k == 0) || is_of_ints ints k

-- whether it is of this symbol, at ground types
abbrev pub is_instance_of : ℕ → Occurrence → Bool
is_instance_of k o = (o.symbol == k) && (above_ty_vars o.types == 0)

-- what a table has of a symbol, where these are the occurrences of its task
abbrev pub symbol_instances : Option Ints → List Occurrence → ℕ → List Occurrence
symbol_instances ints os k =
    if is_interpreted ints k then whole_occurrence k ∷ [] else filter (is_instance_of k) os

-- what the names of a problem's table stand for, in order
abbrev pub problem_things : TaskTree → List Occurrence
problem_things t = distinct (flat_map (symbol_instances t.ints (task_occurrences t)) (declared t))

-- and of a task's
abbrev pub task_things : TaskTree → List Occurrence
task_things t = distinct (map whole_occurrence (declared t))

abbrev pub leaf_thing : Head → Occurrence
leaf_thing (HTyRigid k) = whole_occurrence k
leaf_thing _ = whole_occurrence 0

abbrev pub one_thing : Head → Tree → Occurrence
one_thing (HTyApp k) args = occurrence k args
one_thing _ args = whole_occurrence 0

-- what a type is among them
abbrev pub thing_of : Tree → Occurrence
thing_of (Leaf h) = leaf_thing h
thing_of (One h a) = one_thing h a
thing_of (Two h a b) = whole_occurrence 0
thing_of (Three h a b c) = whole_occurrence 0

-- its place, or their number
abbrev pub occurrence_place : List Occurrence → Occurrence → ℕ
occurrence_place things o = position_or_len (is_same o) things

abbrev pub named_thing : List ℕ → ℕ → NameOf
named_thing rigid k = if k == 0 then Int else (if is_in k rigid then Rigid k else Symbol k)

-- the name of what is at a place, with the places of its types
abbrev pub entry_at_place : TaskTree → List Occurrence → ℕ → Occurrence → NameEntry
entry_at_place t things place o = record {
  name = name_at_place (symbol_or t.symbols o.symbol).name place;
  symbol = named_thing t.rigid o.symbol;
  types = map (λ type. occurrence_place things (thing_of type)) (members o.types);
}

-- those of these, from a place on
abbrev pub entries_from : TaskTree → List Occurrence → ℕ → List Occurrence → List NameEntry
entries_from t things place [] = []
entries_from t things place (o ∷ os) =
    entry_at_place t things place o ∷ entries_from t things (place + 1) os

abbrev pub names_of : TaskTree → List Occurrence → List NameEntry
names_of t things = entries_from t things 0 things

-- the name table of a task's problem
abbrev pub problem_names : TaskTree → List NameEntry
problem_names t = names_of t (problem_things t)

-- the name table of a task
abbrev pub task_names : TaskTree → List NameEntry
task_names t = names_of t (task_things t)

-- no two entries have one name
abbrev pub NamesDiffer : List NameEntry → Type 0
NamesDiffer names = AllPairs (λ m n. m.name ≢ n.name) names
