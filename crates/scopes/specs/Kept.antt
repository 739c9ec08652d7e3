-- How a scope keeps its entries: in the order in which they came, and by name in a map.
use Rattle.std.specs.Prelude.{◌≡◌, ℕ, Bool, false, cond, ◌||◌, List, [], ◌∷◌, Option, Some, None, Vec}
use Rattle.std.specs.HashMap.{HashMap, get_by}
use Rattle.std.specs.Str.{bytes_eq}
use Rattle.scopes.specs.declared.Table.{Table}
use Rattle.scopes.specs.declared.Table.TheVariants.{Types, Symbols, Propositions, Scopes}
use Rattle.scopes.specs.declared.entries.Meaning.{Meaning}
use Rattle.scopes.specs.declared.entries.Meanings.{Meanings}
use Rattle.scopes.specs.declared.entries.Stored.{Stored}
use Rattle.scopes.specs.declared.entries.Item.{Item}
use Rattle.scopes.specs.Names.{TypeName, ScopeEntry, is_named}

abbrev pub stored_entry : Stored → ScopeEntry
stored_entry x =
    record { table = x.table; name = x.name.items; thing = x.thing; declared = x.declared }

-- before these
abbrev pub entries_before : List ScopeEntry → List Stored → List ScopeEntry
entries_before es [] = es
entries_before es (x ∷ xs) = entries_before (stored_entry x ∷ es) xs

-- the entries that came in this order, latest first
abbrev pub latest_first : List Stored → List ScopeEntry
latest_first xs = entries_before [] xs

-- an entry that is brought in
abbrev pub brought_entry : Item → ScopeEntry
brought_entry x = record { table = x.table; name = x.name.items; thing = x.thing; declared = false }

-- the entries that come in this order, before these
abbrev pub brought_before : List ScopeEntry → List Item → List ScopeEntry
brought_before es [] = es
brought_before es (x ∷ xs) = brought_before (brought_entry x ∷ es) xs

abbrev pub was_declared : Option Meaning → Bool
was_declared None = false
was_declared (Some m) = m.declared

abbrev pub meaning_thing : Option Meaning → Option TypeName
meaning_thing None = None
meaning_thing (Some m) = Some m.thing

abbrev pub with_meaning : ScopeEntry → Option Meaning → Option Meaning
with_meaning e m = Some (record { thing = e.thing; declared = e.declared || was_declared m })

-- the latest thing of a name in a table, and whether the name was declared
abbrev pub latest_meaning : Table → List ℕ → List ScopeEntry → Option Meaning
latest_meaning table name [] = None
latest_meaning table name (e ∷ es) =
    cond (is_named table name e) (with_meaning e (latest_meaning table name es))
    (latest_meaning table name es)

abbrev pub meaning_in : Table → Meanings → Option Meaning
meaning_in Types m = m.types
meaning_in Symbols m = m.symbols
meaning_in Propositions m = m.propositions
meaning_in Scopes m = m.scopes

abbrev pub stored_meaning : Table → Option Meanings → Option Meaning
stored_meaning table None = None
stored_meaning table (Some m) = meaning_in table m

-- each entry keeps what its name meant before it
abbrev pub KeepBefore : List ScopeEntry → List Stored → Type 0
KeepBefore es [] = Unit {0}
KeepBefore es (x ∷ xs) =
    (x.before ≡ latest_meaning x.table x.name.items es) × KeepBefore (stored_entry x ∷ es) xs

-- what the map has at a name
abbrev pub meanings_of : {Y S : Type 0} → HashMap (Vec ℕ Y) Meanings S → List ℕ → Option Meanings
meanings_of m name = get_by (λ k. bytes_eq name k.items) m

-- the map has what each name means
pub record IsKeptMap {Y S : Type 0} (xs : List Stored)
    (m : HashMap (Vec ℕ Y) Meanings S) : Type 0 where
  pub meanings : (table : Table) (name : List ℕ)
      → stored_meaning table (meanings_of m name) ≡ latest_meaning table name (latest_first xs)
  pub before : KeepBefore [] xs
