-- No two names of a table are the same, since each ends in its place.
use Rattle.std.proofs.Common.{◌≡◌, ◌≢◌, ℕ, ◌+◌, ◌<◌, ◌≤◌, ◌^◌, ◌==◌, cond, true, false, zero, suc, List, [], ◌∷◌, ◌++◌, length, get_or, AllPairs, refl, sym, ap, ◌∙◌, arith}
use Rattle.std.proofs.lemmas.Bool.Decides.{nat_tests}
use Rattle.std.proofs.lemmas.Fmt.{decimal_is_IsNumeral, decimal_injective}
use Rattle.std.proofs.lemmas.Str.Parse.{digit_from_value}
use Rattle.std.specs.Fmt.{decimal}
use Rattle.std.specs.Str.Parse.{AllDigits}
use Rattle.tasks.specs.Task.{TaskTree, symbol_or}
use Rattle.name_tables.specs.declared.name_entries.names.NameEntry.{NameEntry}
use Rattle.name_tables.specs.Occurrences.{Occurrence}
use Rattle.name_tables.specs.Spelling.{own_name, clean, name_at_place}
use Rattle.name_tables.specs.Tables.{entry_at_place, entries_from, names_of, NamesDiffer}

-- what comes after the last `_`, or what was found before
abbrev after_last : List ℕ → List ℕ → List ℕ
after_last found [] = found
after_last found (c ∷ cs) = cond (c == 95) (after_last cs cs) (after_last found cs)

digits_after : (ds found : List ℕ) → AllDigits 10 ds → after_last found ds ≡ found
digits_after [] found d = refl
digits_after (c ∷ cs) found d =
    let k = digit_from_value c d.0 in
    let e : (c == 95) ≡ false = grind (arith, nat_tests) in
    rw e (digits_after cs found d.1)

following : (x ds found : List ℕ) → AllDigits 10 ds → after_last found (x ++ (95 ∷ ds)) ≡ ds
following [] ds found d = digits_after ds ds d
following (c ∷ cs) ds found d = elim (c == 95) as (λ b. cond b (after_last (cs ++ (95 ∷ ds)) (cs ++ (95 ∷ ds))) (after_last found (cs ++ (95 ∷ ds))) ≡ ds) [
  | true ↦ following cs ds (cs ++ (95 ∷ ds)) d
  | false ↦ following cs ds found d
]

places_same : (x y : List ℕ) (m n : ℕ) → m < 2 ^ 64 → n < 2 ^ 64 → name_at_place x m ≡ name_at_place y n → m ≡ n
places_same x y m n p q e =
    let d = (decimal_is_IsNumeral m p).0.1 in
    let f = (decimal_is_IsNumeral n q).0.1 in
    decimal_injective m n p q (sym (following (clean (own_name x)) (decimal m) [] d) ∙ ap (after_last []) e ∙ following (clean (own_name y)) (decimal n) [] f)

-- the name at a place
entry_name : (t : TaskTree) (all os : List Occurrence) (place i : ℕ) (d : NameEntry) → i < length (entries_from t all place os)
    → (x : List ℕ) × ((get_or (entries_from t all place os) i d).name ≡ name_at_place x (place + i))
entry_name t all [] place i d h = absurd (omega arith)
entry_name t all (o ∷ os) place zero d h = ((symbol_or t.symbols o.symbol).name, ap (name_at_place (symbol_or t.symbols o.symbol).name) (let e : place ≡ place + 0 = omega arith in e))
entry_name t all (o ∷ os) place (suc i) d h =
    let r = entry_name t all os (place + 1) i d (omega arith) in
    (r.0, r.1 ∙ ap (name_at_place r.0) (let e : place + 1 + i ≡ place + suc i = omega arith in e))

pub names_differ : (t : TaskTree) (things : List Occurrence) (names : List NameEntry) → names ≡ names_of t things → length names ≤ 2 ^ 64 → NamesDiffer names
names_differ t things names e small = rw e (λ i j d below within same.
    let a = entry_name t things things 0 i d (omega arith) in
    let b = entry_name t things things 0 j d within in
    let n : length (names_of t things) ≤ 2 ^ 64 = rw (← e) small in
    let places = places_same a.0 b.0 (0 + i) (0 + j) (omega arith) (omega arith) (sym a.1 ∙ same ∙ b.1) in
    omega (arith, places))
