-- The name tables of the parts of a goal, as lines: an entry's name, its kind, what it stands for,
-- and the names of its types.
use Rattle.std.specs.Prelude.{ℕ, ◌+◌, ◌-◌, Bool, false, if◌then◌else◌, List, [], ◌∷◌, ◌++◌, length, take, slice_get, Option, Some, None, decimal, codes}
use Rattle.std.specs.List.{flat_map}
use Rattle.tasks.specs.declared.signature.SymbolKind.{SymbolKind}
use Rattle.tasks.specs.declared.signature.SymbolKind.TheVariants.{Kind, Predicate}
use Rattle.tasks.specs.Task.{SymbolTree, TaskTree, symbol_or}
use Rattle.name_tables.specs.declared.name_entries.names.NameOf.{NameOf}
use Rattle.name_tables.specs.declared.name_entries.names.NameOf.TheVariants.{Int, Rigid, Symbol}
use Rattle.name_tables.specs.declared.name_entries.names.NameEntry.{NameEntry}
use Rattle.name_tables.specs.Spelling.{own_name, is_spelt_byte}
use Rattle.drivers.specs.declared.driver_parts.driver.Driver.{Driver}
use Rattle.printed_problems.specs.Problems.{problem_of}

-- a name without scopes that begins with an operator's character is an operator's
abbrev pub is_operator_name : List ℕ → Bool
is_operator_name [] = false
is_operator_name (c ∷ cs) = is_spelt_byte c

-- an operator is in parentheses
abbrev pub shown_own : List ℕ → List ℕ
shown_own own = if is_operator_name own then 40 ∷ own ++ 41 ∷ [] else own

-- a name with those of its scopes
abbrev pub shown_name : List ℕ → List ℕ
shown_name name = take (length name - length (own_name name)) name ++ shown_own (own_name name)

abbrev pub kind_word : SymbolKind → List ℕ
kind_word Kind = codes "type"
kind_word Predicate = codes "predicate"
kind_word _ = codes "function"

abbrev pub symbol_words : SymbolTree → List ℕ
symbol_words s = kind_word s.kind ++ 32 ∷ s.theory ++ 46 ∷ shown_name s.name

-- what a name stands for
abbrev pub entry_words : List SymbolTree → NameOf → List ℕ
entry_words symbols Int = codes "type int"
entry_words symbols (Rigid k) = codes "type " ++ (symbol_or symbols k).name
entry_words symbols (Symbol k) = symbol_words (symbol_or symbols k)

abbrev pub name_or_none : Option NameEntry → List ℕ
name_or_none None = []
name_or_none (Some entry) = entry.name

-- the name at a place of the table, after a blank
abbrev pub type_words : List NameEntry → ℕ → List ℕ
type_words names place = 32 ∷ name_or_none (slice_get names place)

abbrev pub entry_line : List SymbolTree → List NameEntry → NameEntry → List ℕ
entry_line symbols names entry =
    entry.name ++ 32 ∷ entry_words symbols entry.symbol ++ flat_map (type_words names) entry.types
    ++ 10 ∷ []

abbrev pub part_head : ℕ → ℕ → List ℕ
part_head part parts = codes "; " ++ decimal part ++ codes " of " ++ decimal parts ++ 10 ∷ []

-- the table of a part of so many
abbrev pub name_text : ℕ → ℕ → List SymbolTree → List NameEntry → List ℕ
name_text part parts symbols names =
    part_head part parts ++ flat_map (entry_line symbols names) names

abbrev pub names_from : Driver → ℕ → ℕ → List TaskTree → List ℕ
names_from d part parts [] = []
names_from d part parts (t ∷ ts) =
    name_text part parts t.symbols (problem_of d t).names ++ names_from d (part + 1) parts ts

-- the tables of the problems of parts under a driver
abbrev pub name_texts : Driver → List TaskTree → List ℕ
name_texts d ts = names_from d 1 (length ts) ts
