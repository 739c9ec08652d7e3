-- The fields of records, by their names (Why3 manual, "logical declarations"): to which record a
-- field belongs, and which of its fields it is. A record's constructor stands in a signature before
-- the functions of its fields, which are in the order of the fields.
use Rattle.std.specs.Prelude.{ℕ, zero, suc, ◌-◌, nat_lt, nat_le, Bool, true, false, cond, ◌&&◌, List, [], ◌∷◌, length, replicate, get_or, slice_set, Option, Some, None}
use Rattle.tokens_why.specs.OwnNames.{is_lower_own}
use Rattle.tasks.specs.Task.{SymbolTree, symbol_or}
use Rattle.tasks.specs.Vocabulary.{is_constructor_kind}
use Rattle.tasks.specs.declared.signature.SymbolKind.{SymbolKind}
use Rattle.tasks.specs.declared.signature.SymbolKind.TheVariants.{Projection}
use Rattle.surface.specs.Lexeme.{Word}
use Rattle.name_resolution.specs.Abstract.{FieldName}

abbrev pub is_projection : SymbolKind → Bool
is_projection Projection = true
is_projection _ = false

abbrev pub is_later_projection : List SymbolTree → ℕ → Bool
is_later_projection symbols k = nat_lt 0 k && is_projection (symbol_or symbols k).kind

-- the entry at or before a number that is no projection: its constructor, where it is that of a
-- projection
abbrev pub constructor_before : List SymbolTree → ℕ → ℕ
constructor_before symbols zero = zero
constructor_before symbols (suc k) =
    cond (is_projection (symbol_or symbols (suc k)).kind) (constructor_before symbols k) (suc k)

-- The constructor of a record: its name begins in lower case, as `mk_r` of `r` does, and those of
-- all others in upper case.
abbrev pub is_record : SymbolTree → Bool
is_record e = is_constructor_kind e.kind && is_lower_own e.name

-- whether the entry k is that of a field of the record c: so many as it has fields come after it
abbrev pub is_field_of : SymbolTree → ℕ → ℕ → Bool
is_field_of e c k = is_record e && (nat_lt c k && nat_le (k - c) (length e.args))

-- the place of an entry among the fields of a record
abbrev pub place_in : List SymbolTree → ℕ → ℕ → Option ℕ
place_in symbols c k = cond (is_field_of (symbol_or symbols c) c k) (Some (k - c - 1)) None

-- ---- by names
-- what the names of symbols mean after their scopes
abbrev pub NamesOfSymbols : Type 0
NamesOfSymbols = List Word → Word → Option ℕ

abbrev pub entry_of_field : NamesOfSymbols → FieldName → Option ℕ
entry_of_field names f = names f.scopes f.text

abbrev pub record_with : List SymbolTree → Option ℕ → ℕ
record_with symbols None = 0
record_with symbols (Some k) = constructor_before symbols k

-- the record to which the first of some fields belongs
abbrev pub record_named : List SymbolTree → NamesOfSymbols → List FieldName → ℕ
record_named symbols names [] = 0
record_named symbols names (f ∷ fs) = record_with symbols (entry_of_field names f)

abbrev pub field_place : List SymbolTree → ℕ → Option ℕ → Option ℕ
field_place symbols c None = None
field_place symbols c (Some k) = place_in symbols c k

abbrev pub or_first : Option ℕ → ℕ
or_first None = 0
or_first (Some p) = p

-- the places of fields in a record; a name that is none of its fields has the first
abbrev pub places_named : List SymbolTree → NamesOfSymbols → ℕ → List FieldName → List ℕ
places_named symbols names c [] = []
places_named symbols names c (f ∷ fs) =
    or_first (field_place symbols c (entry_of_field names f)) ∷ places_named symbols names c fs

-- ---- by places
-- what stands at places, and else this
abbrev pub standing_at : {A : Type 0} → A → List ℕ → List A → List A
standing_at d [] xs = []
standing_at d (p ∷ ps) xs = get_or xs p d ∷ standing_at d ps xs

-- these at their places among others, one after another
abbrev pub put_at_places : {A : Type 0} → List ℕ → List A → List A → List A
put_at_places [] xs ys = ys
put_at_places (p ∷ ps) [] ys = ys
put_at_places (p ∷ ps) (x ∷ xs) ys = put_at_places ps xs (slice_set ys p x)

-- for each field whether it was named; none was
abbrev pub none_named : SymbolTree → List Bool
none_named e = replicate (length e.args) false

-- and after fields at these places
abbrev pub named_after : List ℕ → List Bool → List Bool
named_after [] named = named
named_after (p ∷ ps) named = named_after ps (slice_set named p true)

abbrev pub each_named : List Bool → Bool
each_named [] = true
each_named (b ∷ bs) = b && each_named bs
