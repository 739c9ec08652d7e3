-- The names of fields: their places in a record are new, one after another.
use Rattle.std.proofs.Common.{◌≡◌, ℕ, ◌-◌, ◌<◌, ◌≤◌, zero, suc, nat_lt, nat_le, Bool, true, false, not, ◌&&◌, ◌==◌, cond, List, [], ◌∷◌, ◌++◌, append_assoc, length, replicate, get_or, slice_set, Option, Some, None, refl, sym, ap, ◌∙◌, arith}
use Rattle.std.proofs.lemmas.Bool.Decides.{nat_tests}
use Rattle.std.proofs.lemmas.Bool.{eqb-true}
use Rattle.std.proofs.Math.ListN.{length-map}
use Rattle.tasks.specs.trees.Node.{tree_at}
use Rattle.tasks.specs.trees.Tree.{Tree}
use Rattle.tasks.specs.Task.{SymbolTree, symbol_or, int_symbol}
use Rattle.tasks.specs.Meaning.{symbol_at, symbols_at}
use Rattle.tasks.specs.declared.signature.SymbolInfo.{SymbolInfo}
use Rattle.std.specs.List.{slice_get}
use Rattle.tasks.specs.Vocabulary.{is_constructor_kind}
use Rattle.tokens_why.specs.OwnNames.{is_lower_own}
use Rattle.name_resolution.specs.Abstract.{FieldName}
use Rattle.name_resolution.specs.Records.{is_projection, is_later_projection, constructor_before, is_record, is_field_of, field_place, or_first, NamesOfSymbols, entry_of_field, record_named, places_named, none_named, named_after, each_named}
use Rattle.name_resolution.specs.declared.NamingFault.{NamingFault}
use Rattle.name_resolution.specs.declared.NamingFault.TheVariants.{WrongKind, Arity, Duplicate}
use Rattle.name_resolution.specs.Faults.{first_of, fault_if, place_fault, entry_named_fault, fields_fault, record_fault}
use Rattle.name_resolution.specs.Where.{Where}
use Rattle.name_resolution.proofs.Putting.{both_named}
use Rattle.name_resolution.proofs.variables.Closing.{none_both}

-- each is among so many, and none was named before
abbrev pub AreNewPlaces : List Bool → List ℕ → Type 0
AreNewPlaces named [] = Unit {0}
AreNewPlaces named (p ∷ ps) = (p < length named) × (get_or named p false ≡ false) × AreNewPlaces (slice_set named p true) ps

pub not_at_fault : (b : Bool) (f : NamingFault) → fault_if b f ≡ None → b ≡ false
not_at_fault true f h = absurd (cc (h))
not_at_fault false f h = refl

pub not_false : (b : Bool) → not b ≡ false → b ≡ true
not_false true h = refl
not_false false h = absurd (cc (h))

set_as_long : (bs : List Bool) (p : ℕ) (b : Bool) → length (slice_set bs p b) ≡ length bs
set_as_long [] p b = refl
set_as_long (x ∷ xs) zero b = refl
set_as_long (x ∷ xs) (suc p) b = ap suc (set_as_long xs p b)

-- a field with a place
place_found : (e : SymbolTree) (c k : ℕ) (named : List Bool) (i : ℕ) → length named ≡ length e.args → place_fault named i (cond (is_field_of e c k) (Some (k - c - 1)) None) ≡ None
    → (or_first (cond (is_field_of e c k) (Some (k - c - 1)) None) < length named) × (get_or named (or_first (cond (is_field_of e c k) (Some (k - c - 1)) None)) false ≡ false) × (is_record e ≡ true)
place_found e c k named i l h = of (is_field_of e c k) refl h
  where
    of : (b : Bool) → is_field_of e c k ≡ b → place_fault named i (cond b (Some (k - c - 1)) None) ≡ None
        → (or_first (cond b (Some (k - c - 1)) None) < length named) × (get_or named (or_first (cond b (Some (k - c - 1)) None)) false ≡ false) × (is_record e ≡ true)
    of false q z = absurd (cc (z))
    of true q z =
        let p = both_named (is_record e) (nat_lt c k && nat_le (k - c) (length e.args)) q in
        let r = both_named (nat_lt c k) (nat_le (k - c) (length e.args)) p.1 in
        let a : c < k = grind (arith, nat_tests, r.0) in
        let b : k - c ≤ length e.args = grind (arith, nat_tests, r.1) in
        (omega (arith, a, b, l), not_at_fault (get_or named (k - c - 1) false) (Duplicate i) z, p.0)

module _ (symbols : List SymbolTree) (names : NamesOfSymbols) (c : ℕ) where
  abbrev entry : SymbolTree
  entry = symbol_or symbols c

  field_found : (named : List Bool) (i : ℕ) (m : Option ℕ) → length named ≡ length entry.args → entry_named_fault symbols c named i m ≡ None
      → (or_first (field_place symbols c m) < length named) × (get_or named (or_first (field_place symbols c m)) false ≡ false) × (is_record entry ≡ true)
  field_found named i None l h = absurd (cc (h))
  field_found named i (Some k) l h = place_found entry c k named i l h

  pub new_places : (fs : List FieldName) (named : List Bool) → length named ≡ length entry.args → fields_fault symbols names c named fs ≡ None → AreNewPlaces named (places_named symbols names c fs)
  new_places [] named l h = tt
  new_places (f ∷ fs) named l h =
      let p = or_first (field_place symbols c (entry_of_field names f)) in
      let k = none_both (entry_named_fault symbols c named f.at (entry_of_field names f)) (fields_fault symbols names c (slice_set named p true) fs) h in
      let a = field_found named f.at (entry_of_field names f) l k.0 in
      (a.0, a.1, new_places fs (slice_set named p true) (set_as_long named p true ∙ l) k.1)

  pub places_count : (fs : List FieldName) → length (places_named symbols names c fs) ≡ length fs
  places_count [] = refl
  places_count (f ∷ fs) = ap suc (places_count fs)

pub none_count : (n : ℕ) → length (replicate n false) ≡ n
none_count zero = refl
none_count (suc n) = ap suc (none_count n)

-- ---- back to the constructor
later_true : (k : ℕ) → nat_lt 0 (suc k) ≡ true
later_true k = let l : 0 < suc k = omega arith in grind (arith, nat_tests, l)

after_true : (a b : Bool) → a ≡ true → (a && b) ≡ false → b ≡ false
after_true true b h k = k
after_true false b h k = absurd (cc (h))

pub step_back : (symbols : List SymbolTree) (k : ℕ) → is_later_projection symbols k ≡ true → constructor_before symbols (k - 1) ≡ constructor_before symbols k
step_back symbols zero h = absurd (cc (h))
step_back symbols (suc k) h =
    let p = (both_named (nat_lt 0 (suc k)) (is_projection (symbol_or symbols (suc k)).kind) h).1 in
    let e : suc k - 1 ≡ k = omega arith in
    ap (constructor_before symbols) e ∙ sym (ap (λ (b : Bool). cond b (constructor_before symbols k) (suc k)) p)

pub stays_there : (symbols : List SymbolTree) (k : ℕ) → is_later_projection symbols k ≡ false → constructor_before symbols k ≡ k
stays_there symbols zero h = refl
stays_there symbols (suc k) h = ap (λ (b : Bool). cond b (constructor_before symbols k) (suc k)) (after_true (nat_lt 0 (suc k)) (is_projection (symbol_or symbols (suc k)).kind) (later_true k) h)

pub later_number : (symbols : List SymbolTree) (k : ℕ) → is_later_projection symbols k ≡ true → 1 ≤ k
later_number symbols k h = let p = (both_named (nat_lt 0 k) (is_projection (symbol_or symbols k).kind) h).0 in let l : 0 < k = grind (arith, nat_tests, p) in omega (arith, l)

-- ---- the place of an entry
pub after_later : (e : SymbolTree) (c k : ℕ) → is_field_of e c k ≡ true → c < k
after_later e c k h =
    let p = both_named (nat_lt c k) (nat_le (k - c) (length e.args)) (both_named (is_record e) (nat_lt c k && nat_le (k - c) (length e.args)) h).1 in
    grind (arith, nat_tests, p.0)

pub then_after : (e : SymbolTree) (c k n : ℕ) → is_record e ≡ true → c < k → n ≡ length e.args → nat_le (k - c) n ≡ is_field_of e c k
then_after e c k n h l q =
    let t : nat_lt c k ≡ true = grind (arith, nat_tests, l) in
    ap (nat_le (k - c)) q ∙ sym (ap (λ (b : Bool). b && (nat_lt c k && nat_le (k - c) (length e.args))) h ∙ ap (λ (b : Bool). b && nat_le (k - c) (length e.args)) t)

pub not_after : (e : SymbolTree) (c k : ℕ) → k ≤ c → false ≡ is_field_of e c k
not_after e c k l =
    let t : nat_lt c k ≡ false = grind (arith, nat_tests, l) in
    sym (ap (λ (b : Bool). is_record e && (b && nat_le (k - c) (length e.args))) t ∙ never (is_record e))
  where
    never : (b : Bool) → (b && false) ≡ false
    never true = refl
    never false = refl

pub no_record : (e : SymbolTree) (c k : ℕ) → is_record e ≡ false → false ≡ is_field_of e c k
no_record e c k h = sym (ap (λ (b : Bool). b && (nat_lt c k && nat_le (k - c) (length e.args))) h)

pub count_args : (s : List Tree) (i : SymbolInfo) → length (symbol_at s i).args ≡ length i.args
count_args s i = length-map i.args (tree_at s)

-- ---- fields one after another
pub place_next : (symbols : List SymbolTree) (names : NamesOfSymbols) (c : ℕ) (done : List ℕ) (fs gs : List FieldName) (f : FieldName) (p : ℕ) (whole : List ℕ) → fs ≡ f ∷ gs → p ≡ or_first (field_place symbols c (entry_of_field names f))
    → done ++ places_named symbols names c fs ≡ whole → (done ++ p ∷ []) ++ places_named symbols names c gs ≡ whole
place_next symbols names c done fs gs f p whole e q h =
    append_assoc done (p ∷ []) (places_named symbols names c gs) ∙ ap (λ (x : ℕ). done ++ x ∷ places_named symbols names c gs) q ∙ ap (λ (xs : List FieldName). done ++ places_named symbols names c xs) (sym e) ∙ h

-- ---- a record's names, told of the whole
pub same_count : (n : ℕ) → (n == n) ≡ true
same_count n = grind (arith, nat_tests)

and_true : (a b : Bool) → b ≡ true → (a && b) ≡ a
and_true true b h = h
and_true false b h = refl

pub record_told : (w : Where) (whole : Bool) (i : ℕ) (fs : List FieldName) (c : ℕ) (named after : List Bool) → c ≡ record_named w.symbols w.names fs → named ≡ none_named (symbol_or w.symbols c) → after ≡ named_after (places_named w.symbols w.names c fs) named
    → record_fault w whole i (length fs) fs
    ≡ first_of (fields_fault w.symbols w.names c named fs) (first_of (fault_if (not (is_record (symbol_or w.symbols c))) (WrongKind i)) (fault_if (whole && not (each_named after)) (Arity i)))
record_told w whole i fs c named after q r a =
    let k = record_named w.symbols w.names fs in
    let e = symbol_or w.symbols k in
    let m = fault_if (whole && not (each_named (named_after (places_named w.symbols w.names k fs) (none_named e)))) (Arity i) in
    let one : record_fault w whole i (length fs) fs ≡ first_of (fields_fault w.symbols w.names k (none_named e) fs) (first_of (fault_if (not (is_record e)) (WrongKind i)) m) =
    ap (λ (b : Bool). first_of (fields_fault w.symbols w.names k (none_named e) fs) (first_of (fault_if (not b) (WrongKind i)) m)) (and_true (is_record e) (length fs == length fs) (same_count (length fs))) in
    one ∙ (rw (a, r, q) refl)

-- ---- entries in code
pub entry_got : (s : List Tree) (is : List SymbolInfo) (k : ℕ) (info : SymbolInfo) → slice_get is k ≡ Some info → symbol_or (symbols_at s is) k ≡ symbol_at s info
entry_got s [] zero info h = absurd (cc (h))
entry_got s [] (suc k) info h = absurd (cc (h))
entry_got s (x ∷ xs) zero info h = ap (λ (o : Option SymbolInfo). symbol_at s (or_info x o)) h
  where
    or_info : SymbolInfo → Option SymbolInfo → SymbolInfo
    or_info d None = d
    or_info d (Some y) = y
entry_got s (x ∷ xs) (suc k) info h = entry_got s xs k info h

pub no_entry : (s : List Tree) (is : List SymbolInfo) (k : ℕ) → slice_get is k ≡ None → symbol_or (symbols_at s is) k ≡ int_symbol
no_entry s [] zero h = refl
no_entry s [] (suc k) h = refl
no_entry s (x ∷ xs) zero h = absurd (cc (h))
no_entry s (x ∷ xs) (suc k) h = no_entry s xs k h

-- ---- a record without a fault
pub record IsFielded (w : Where) (whole : Bool) (n : ℕ) (fs : List FieldName) : Type 0 where
  pub constructor_of : is_record (symbol_or w.symbols (record_named w.symbols w.names fs)) ≡ true
  pub count : length fs ≡ n
  pub places : AreNewPlaces (none_named (symbol_or w.symbols (record_named w.symbols w.names fs))) (places_named w.symbols w.names (record_named w.symbols w.names fs) fs)
  pub all : whole ≡ true → each_named (named_after (places_named w.symbols w.names (record_named w.symbols w.names fs) fs) (none_named (symbol_or w.symbols (record_named w.symbols w.names fs)))) ≡ true

pub is_fielded : (w : Where) (whole : Bool) (i n : ℕ) (fs : List FieldName) → record_fault w whole i n fs ≡ None → IsFielded w whole n fs
is_fielded w whole i n fs h =
    let c = record_named w.symbols w.names fs in
    let e = symbol_or w.symbols c in
    let none = none_named e in
    let after = named_after (places_named w.symbols w.names c fs) none in
    let p = none_both (fields_fault w.symbols w.names c none fs) (first_of (fault_if (not (is_record e && (length fs == n))) (WrongKind i)) (fault_if (whole && not (each_named after)) (Arity i))) h in
    let q = none_both (fault_if (not (is_record e && (length fs == n))) (WrongKind i)) (fault_if (whole && not (each_named after)) (Arity i)) p.1 in
    let r = both_named (is_record e) (length fs == n) (not_false (is_record e && (length fs == n)) (not_at_fault (not (is_record e && (length fs == n))) (WrongKind i) q.0)) in
    record {
      constructor_of = r.0;
      count = eqb-true (length fs) n r.1;
      places = new_places w.symbols w.names c fs none (none_count (length e.args)) p.0;
      all = λ k. missing whole (each_named after) k (not_at_fault (whole && not (each_named after)) (Arity i) q.1);
    }
  where
    missing : (a b : Bool) → a ≡ true → (a && not b) ≡ false → b ≡ true
    missing true true k z = refl
    missing true false k z = absurd (cc (z))
    missing false b k z = absurd (cc (k))

-- its constructor is one
pub fielded_kind : (w : Where) (whole : Bool) (n : ℕ) (fs : List FieldName) → IsFielded w whole n fs → is_constructor_kind (symbol_or w.symbols (record_named w.symbols w.names fs)).kind ≡ true
fielded_kind w whole n fs f = let e = symbol_or w.symbols (record_named w.symbols w.names fs) in (both_named (is_constructor_kind e.kind) (is_lower_own e.name) f.constructor_of).0
