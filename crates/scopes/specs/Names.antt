-- What a name means: scopes, each a list of entries, and the search for a name with its qualifiers.
-- The rules of names of the Why3 language reference, as this project reads them.
use Rattle.std.specs.Prelude.{ℕ, Bool, true, false, cond, ◌&&◌, ◌||◌, List, [], ◌∷◌, ◌++◌, length, get_or, map, set, Option, Some, None, option_map}
use Rattle.std.specs.Str.{bytes_eq}
use Rattle.scopes.specs.declared.Table.{Table}
use Rattle.scopes.specs.declared.Table.TheVariants.{Types, Symbols, Propositions, Scopes}
use Rattle.scopes.specs.declared.Referent.{Referent}
use Rattle.scopes.specs.declared.Referent.TheVariants as stands

-- a name in a table: what it stands for, and whether the scope declared it or has it by an import.
-- What a name of the table of scopes stands for is a scope, by its number; in the table of types
-- alone a name may stand for a type, which is a tree in definitions and a number of a store in code
pub record EntryOf (A : Type 0) : Type 0 where
  pub table : Table
  pub name : List ℕ
  pub thing : Referent A
  pub declared : Bool

-- the number of an entry or of a scope; a type is none
abbrev pub number_of : {A : Type 0} → Referent A → ℕ
number_of (stands.Entry number) = number
number_of (stands.Alias vars ty) = 0

-- the entries of every scope by its number, latest first, and the numbers of the open scopes,
-- innermost first
pub record NamesOf (A : Type 0) : Type 0 where
  pub entries : List (List (EntryOf A))
  pub nested : List ℕ

-- those of code
abbrev pub TypeName : Type 0
TypeName = Referent ℕ

abbrev pub ScopeEntry : Type 0
ScopeEntry = EntryOf ℕ

abbrev pub ScopeNames : Type 0
ScopeNames = NamesOf ℕ

abbrev pub same_table : Table → Table → Bool
same_table Types Types = true
same_table Symbols Symbols = true
same_table Propositions Propositions = true
same_table Scopes Scopes = true
same_table _ _ = false

-- whether an entry has this name in this table
abbrev pub is_named : {A : Type 0} → Table → List ℕ → EntryOf A → Bool
is_named table name e = same_table table e.table && bytes_eq e.name name

-- what the latest entry with this name in this table stands for
abbrev pub latest : {A : Type 0} → Table → List ℕ → List (EntryOf A) → Option (Referent A)
latest table name [] = None
latest table name (e ∷ es) = cond (is_named table name e) (Some e.thing) (latest table name es)

-- whether the name was declared in this table
abbrev pub is_declared : {A : Type 0} → Table → List ℕ → List (EntryOf A) → Bool
is_declared table name [] = false
is_declared table name (e ∷ es) = (is_named table name e && e.declared) || is_declared table name es

-- the entries of the scope with this number
abbrev pub entries_of : {A : Type 0} → NamesOf A → ℕ → List (EntryOf A)
entries_of s number = get_or s.entries number []

abbrev pub or_else : {A : Type 0} → Option (Referent A) → Option (Referent A) → Option (Referent A)
or_else None more = more
or_else (Some thing) more = Some thing

-- what a name without qualifiers stands for: the first of these scopes that has it decides
abbrev pub first_found : {A : Type 0} → Table → List ℕ → List (List (EntryOf A)) → List ℕ
    → Option (Referent A)
first_found table name entries [] = None
first_found table name entries (number ∷ numbers) =
    or_else (latest table name (get_or entries number [])) (first_found table name entries numbers)

-- a qualifier is looked for in the table of scopes
abbrev pub table_before : Table → List (List ℕ) → Table
table_before table [] = table
table_before table (name ∷ names) = Scopes

-- the search goes on in the found scope's own entries
abbrev pub find_within : {A : Type 0} → List (List (EntryOf A)) → Table → Option (Referent A)
    → List (List ℕ) → Option (Referent A)
find_within entries table found [] = found
find_within entries table None (name ∷ names) = None
find_within entries table (Some thing) (name ∷ names) =
    find_within entries table
    (latest (table_before table names) name (get_or entries (number_of thing) [])) names

-- what a name stands for, its qualifiers before it
abbrev pub find_name : {A : Type 0} → NamesOf A → Table → List (List ℕ) → Option (Referent A)
find_name s table [] = None
find_name s table (name ∷ names) =
    find_within s.entries table
    (first_found (table_before table names) name s.entries s.nested) names

-- the number of what it stands for
abbrev pub find_number : {A : Type 0} → NamesOf A → Table → List (List ℕ) → Option ℕ
find_number s table path = option_map number_of (find_name s table path)

abbrev pub first_or_zero : List ℕ → ℕ
first_or_zero [] = 0
first_or_zero (number ∷ numbers) = number

abbrev pub rest_of_numbers : List ℕ → List ℕ
rest_of_numbers [] = []
rest_of_numbers (number ∷ numbers) = numbers

abbrev pub innermost : {A : Type 0} → NamesOf A → ℕ
innermost s = first_or_zero s.nested

-- one open scope, without entries
abbrev pub empty_names : {A : Type 0} → NamesOf A
empty_names = record { entries = [] ∷ []; nested = 0 ∷ [] }

-- further entries of the innermost scope
abbrev pub with_scope_entries : {A : Type 0} → List (EntryOf A) → NamesOf A → NamesOf A
with_scope_entries es s = record {
  entries =
      set s.entries (innermost s) (es ++ entries_of s (innermost s));
  nested = s.nested;
}

-- a further name of the innermost scope
abbrev pub with_name : {A : Type 0} → Table → List ℕ → Referent A → Bool → NamesOf A → NamesOf A
with_name table name thing declared s =
    record {
      entries = set s.entries (innermost s)
          (record { table = table; name = name; thing = thing; declared = declared }
          ∷ entries_of s (innermost s));
      nested = s.nested;
    }

-- a further name of the innermost scope, which stands for the thing with this number
abbrev pub with_entry : {A : Type 0} → Table → List ℕ → ℕ → Bool → NamesOf A → NamesOf A
with_entry table name number declared s = with_name table name (stands.Entry number) declared s

-- a new scope, whose name the innermost one gets, is the innermost one
abbrev pub with_scope : {A : Type 0} → List ℕ → Bool → NamesOf A → NamesOf A
with_scope name declared s =
    let named = with_entry Scopes name (length s.entries) declared s
    in record { entries = named.entries ++ [] ∷ []; nested = length s.entries ∷ s.nested }

-- the innermost scope is left
abbrev pub closed : {A : Type 0} → NamesOf A → NamesOf A
closed s = record { entries = s.entries; nested = rest_of_numbers s.nested }

abbrev pub imported : {A : Type 0} → EntryOf A → EntryOf A
imported e = record { table = e.table; name = e.name; thing = e.thing; declared = false }

-- the names of the scope with this number are brought into the innermost one
abbrev pub with_import : {A : Type 0} → ℕ → NamesOf A → NamesOf A
with_import number s = with_scope_entries (map imported (entries_of s number)) s

-- ---- the same names with other types
abbrev pub referent_with : {A B : Type 0} → (A → B) → Referent A → Referent B
referent_with f (stands.Entry number) = stands.Entry number
referent_with f (stands.Alias vars ty) = stands.Alias vars (f ty)

abbrev pub entry_with : {A B : Type 0} → (A → B) → EntryOf A → EntryOf B
entry_with f e = record {
  table = e.table;
  name = e.name;
  thing = referent_with f e.thing;
  declared = e.declared;
}

abbrev pub names_with : {A B : Type 0} → (A → B) → NamesOf A → NamesOf B
names_with f s = record { entries = map (map (entry_with f)) s.entries; nested = s.nested }
