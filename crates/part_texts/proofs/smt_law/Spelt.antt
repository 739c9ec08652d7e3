-- The names of a table are spelt.
use Rattle.std.proofs.Common.{◌≡◌, ℕ, zero, suc, ◌+◌, ◌<◌, ◌≤◌, ◌^◌, ◌==◌, ◌&&◌, ◌||◌, nat_le, Bool, true, false, if◌then◌else◌, List, [], ◌∷◌, ◌++◌, map, length, flat_map, All, refl, sym, ap, ◌∙◌, arith}
use Rattle.std.specs.List.{list_any}
use Rattle.std.specs.Fmt.{decimal}
use Rattle.std.proofs.lemmas.Bool.Decides.{nat_tests, Decides-eqb}
use Rattle.std.proofs.lemmas.List.Folds.{list_any-append}
use Rattle.std.proofs.lemmas.Fmt.{decimal_is_IsNumeral_wide}
use Rattle.tasks.specs.Task.{SymbolTree, int_symbol, TaskTree, symbol_or}
use Rattle.name_tables.specs.Occurrences.{Occurrence}
use Rattle.name_tables.specs.Spelling.{own_name, operator_words, word_in, spelt, is_spelt_byte, is_prefix_operator_name, fixity, operator_name, clean_byte, lower_case, clean_first, clean}
use Rattle.name_tables.specs.Tables.{entry_at_place, entries_from, problem_things}
use Rattle.part_texts.specs.smt_law.s_expressions.Sexps.{breaks}
use Rattle.part_texts.specs.smt_law.Plain.{is_decimal_digit, begins_number}
use Rattle.part_texts.specs.smt_law.Law.{IsEntrySpelt, begins_digit, IsOrdinary, NamesAreSpelt}
use Rattle.part_texts.proofs.smt_law.Words.{or_false, digits_whole, letter_no_number}
use Rattle.tasks.proofs.plain_laws.Bools.{or_first as first_false, or_second as rest_false}

-- ---- no byte breaks a word
abbrev whole : List ℕ → Bool
whole bs = list_any breaks bs

joined : (xs ys : List ℕ) → whole xs ≡ false → whole ys ≡ false → whole (xs ++ ys) ≡ false
joined xs ys h k = list_any-append breaks xs ys ∙ or_false (whole xs) (whole ys) h k

AllWhole : List (ℕ × List ℕ) → Type 0
AllWhole [] = Unit {0}
AllWhole (w ∷ ws) = (whole w.1 ≡ false) × AllWhole ws

word_whole : (ws : List (ℕ × List ℕ)) (c : ℕ) → AllWhole ws → whole (word_in ws c) ≡ false
unfolding AllWhole
word_whole [] c h = refl
word_whole (w ∷ ws) c h = elim (c == w.0) as (λ b. whole (if b then w.1 else word_in ws c) ≡ false) [ true ↦ h.0 | false ↦ word_whole ws c h.1 ]

words_whole : AllWhole operator_words
unfolding AllWhole
words_whole = (refl, (refl, (refl, (refl, (refl, (refl, (refl, (refl, (refl, (refl, (refl, (refl, (refl, (refl, (refl, (refl, (refl, tt)))))))))))))))))

all_spelt : (cs : List ℕ) → whole (flat_map spelt cs) ≡ false
all_spelt [] = refl
all_spelt (c ∷ cs) = joined (spelt c) (flat_map spelt cs) (word_whole operator_words c words_whole) (all_spelt cs)

fixity_whole : (b : Bool) → whole (fixity b) ≡ false
fixity_whole true = refl
fixity_whole false = refl

byte_whole : (c : ℕ) → breaks c ≡ false → breaks (clean_byte c) ≡ false
byte_whole c h = elim (c == 39) as (λ b. breaks (if b then 113 else c) ≡ false) [ true ↦ refl | false ↦ h ]

lower_breaks : (c : ℕ) → (nat_le 65 c && nat_le c 90) ≡ true → breaks (c + 32) ≡ false
lower_breaks c h = grind (arith, nat_tests)

lower_whole : (c : ℕ) → breaks c ≡ false → breaks (lower_case c) ≡ false
lower_whole c h = elim (nat_le 65 c && nat_le c 90) as (λ b. (nat_le 65 c && nat_le c 90) ≡ b → breaks (if b then c + 32 else c) ≡ false) [ true ↦ λ e. lower_breaks c e | false ↦ λ e. h ] refl

bytes_whole : (cs : List ℕ) → whole cs ≡ false → whole (map clean_byte cs) ≡ false
bytes_whole [] h = refl
bytes_whole (c ∷ cs) h = or_false (breaks (clean_byte c)) (whole (map clean_byte cs)) (byte_whole c (first_false (breaks c) (whole cs) h)) (bytes_whole cs (rest_false (breaks c) (whole cs) h))

one_whole : (c : ℕ) → breaks c ≡ false → whole (c ∷ []) ≡ false
one_whole c h = or_false (breaks c) false h refl

first_whole : (c : ℕ) → breaks c ≡ false → whole (clean_first c) ≡ false
first_whole c h = elim (c == 95) as (λ b. whole (if b then 117 ∷ 95 ∷ [] else lower_case (clean_byte c) ∷ []) ≡ false) [ true ↦ refl | false ↦ one_whole (lower_case (clean_byte c)) (lower_whole (clean_byte c) (byte_whole c h)) ]

clean_whole : (x : List ℕ) → whole x ≡ false → whole (clean x) ≡ false
clean_whole [] h = refl
clean_whole (c ∷ cs) h = elim (is_spelt_byte c) as (λ b. whole (if b then operator_name (c ∷ cs) else clean_first c ++ map clean_byte cs) ≡ false) [
  | true ↦ joined (fixity (is_prefix_operator_name (c ∷ cs))) (flat_map spelt (c ∷ cs)) (fixity_whole (is_prefix_operator_name (c ∷ cs))) (all_spelt (c ∷ cs))
  | false ↦ joined (clean_first c) (map clean_byte cs) (first_whole c (first_false (breaks c) (whole cs) h)) (bytes_whole cs (rest_false (breaks c) (whole cs) h))
]

-- ---- and no number begins
NoNumber : List ℕ → Type 0
NoNumber bs = (ds : List ℕ) → begins_number (bs ++ ds) ≡ false

fixity_start : (b : Bool) (cs : List ℕ) → NoNumber (fixity b ++ cs)
unfolding NoNumber
fixity_start true cs ds = refl
fixity_start false cs ds = refl

no_minus : (c : ℕ) → is_spelt_byte c ≡ false → (c == 45) ≡ false
no_minus c h = elim (c == 45) as (λ b. (c == 45) ≡ b → b ≡ false) [
  | true ↦ λ e. sym (ap is_spelt_byte ((Decides-eqb c 45).0 e)) ∙ h
  | false ↦ λ e. refl
] refl

lower_start : (c : ℕ) → (nat_le 65 c && nat_le c 90) ≡ true → is_decimal_digit (c + 32) ≡ false
lower_start c h = grind (arith, nat_tests)

lower_minus : (c : ℕ) → (nat_le 65 c && nat_le c 90) ≡ true → (c + 32 == 45) ≡ false
lower_minus c h = grind (arith, nat_tests)

lower_no_number : (c : ℕ) → is_decimal_digit c ≡ false → (c == 45) ≡ false → (is_decimal_digit (lower_case c) ≡ false) × ((lower_case c == 45) ≡ false)
lower_no_number c h k = elim (nat_le 65 c && nat_le c 90) as (λ b. (nat_le 65 c && nat_le c 90) ≡ b → (is_decimal_digit (if b then c + 32 else c) ≡ false) × (((if b then c + 32 else c) == 45) ≡ false)) [
  | true ↦ λ e. (lower_start c e, lower_minus c e)
  | false ↦ λ e. (h, k)
] refl

byte_no_number : (c : ℕ) → is_decimal_digit c ≡ false → (c == 45) ≡ false → (is_decimal_digit (clean_byte c) ≡ false) × ((clean_byte c == 45) ≡ false)
byte_no_number c h k = elim (c == 39) as (λ b. (is_decimal_digit (if b then 113 else c) ≡ false) × (((if b then 113 else c) == 45) ≡ false)) [ true ↦ (refl, refl) | false ↦ (h, k) ]

letter_start : (c : ℕ) (cs : List ℕ) → is_decimal_digit c ≡ false → (c == 45) ≡ false → NoNumber (c ∷ cs)
unfolding NoNumber
letter_start c cs h k ds = letter_no_number c (cs ++ ds) h k

first_start : (c : ℕ) (cs : List ℕ) → is_decimal_digit c ≡ false → (c == 45) ≡ false → NoNumber (clean_first c ++ cs)
unfolding NoNumber
first_start c cs h k =
    let b = byte_no_number c h k in
    let l = lower_no_number (clean_byte c) b.0 b.1 in
    elim (c == 95) as (λ b. NoNumber ((if b then 117 ∷ 95 ∷ [] else lower_case (clean_byte c) ∷ []) ++ cs)) [ true ↦ λ ds. refl | false ↦ letter_start (lower_case (clean_byte c)) cs l.0 l.1 ]

clean_start : (x ds : List ℕ) → begins_digit x ≡ false → begins_number (clean x ++ 95 ∷ ds) ≡ false
unfolding NoNumber
clean_start [] ds h = letter_no_number 95 ds refl refl
clean_start (c ∷ cs) ds h = elim (is_spelt_byte c) as (λ b. is_spelt_byte c ≡ b → begins_number ((if b then operator_name (c ∷ cs) else clean_first c ++ map clean_byte cs) ++ 95 ∷ ds) ≡ false) [
  | true ↦ λ e. fixity_start (is_prefix_operator_name (c ∷ cs)) (flat_map spelt (c ∷ cs)) (95 ∷ ds)
  | false ↦ λ e. first_start c (map clean_byte cs) h (no_minus c e) (95 ∷ ds)
] refl

-- ---- entries
entry_spelt : (t : TaskTree) (all : List Occurrence) (place : ℕ) (o : Occurrence) → place < 10 ^ 64 → IsOrdinary (symbol_or t.symbols o.symbol) → IsEntrySpelt (entry_at_place t all place o)
entry_spelt t all place o l i =
    let x = own_name (symbol_or t.symbols o.symbol).name in
    let ds = decimal place in
    record {
      start = clean_start x ds i.start;
      whole = joined (clean x) (95 ∷ ds) (clean_whole x i.whole) (digits_whole ds (decimal_is_IsNumeral_wide place l).0.1);
    }

int_ordinary : IsOrdinary int_symbol
int_ordinary = record { start = refl; whole = refl }

symbol_ordinary : (symbols : List SymbolTree) (k : ℕ) → All IsOrdinary symbols → IsOrdinary (symbol_or symbols k)
symbol_ordinary [] k a = int_ordinary
symbol_ordinary (e ∷ es) zero a = a 0 e (omega arith)
symbol_ordinary (e ∷ es) (suc k) a = symbol_ordinary es k (λ i d l. a (suc i) d (omega arith))

entries_spelt : (t : TaskTree) (all os : List Occurrence) (place : ℕ) → place + length os ≤ 2 ^ 64 → All IsOrdinary t.symbols → All IsEntrySpelt (entries_from t all place os)
entries_spelt t all [] place l a k d h = absurd (omega arith)
entries_spelt t all (o ∷ os) place l a zero d h = entry_spelt t all place o (omega (arith, l)) (symbol_ordinary t.symbols o.symbol a)
entries_spelt t all (o ∷ os) place l a (suc k) d h = entries_spelt t all os (place + 1) (omega (arith, l)) a k d (omega arith)

pub names_are_spelt : NamesAreSpelt
names_are_spelt t l a = entries_spelt t (problem_things t) (problem_things t) 0 (omega (arith, l)) a
