-- Names that are made as those of a source are ordinary.
use Rattle.std.proofs.Common.{◌≡◌, ℕ, ◌==◌, ◌&&◌, ◌||◌, not, Bool, true, false, if◌then◌else◌, List, [], ◌∷◌, refl, sym, ap, ◌∙◌}
use Rattle.std.specs.List.{list_all, list_any}
use Rattle.std.proofs.lemmas.Bool.Decides.{Decides-eqb}
use Rattle.std.proofs.lemmas.List.Elements.{All-weaker}
use Rattle.tasks.specs.Task.{SymbolTree}
use Rattle.tasks.specs.Words.{is_name_byte, has_no_number, IsScopedName}
use Rattle.name_tables.specs.Spelling.{after_dots, own_name}
use Rattle.part_texts.specs.smt_law.s_expressions.Sexps.{breaks}
use Rattle.part_texts.specs.smt_law.Plain.{is_decimal_digit}
use Rattle.part_texts.specs.smt_law.Law.{begins_digit, IsOrdinary, ScopedNamesAreSpelt}
use Rattle.part_texts.proofs.smt_law.Words.{or_false}
use Rattle.part_texts.proofs.smt_law.Spelt.{names_are_spelt}
use Rattle.tasks.proofs.plain_laws.Bools.{and_both as both, negated}

-- ---- bytes
other : (c x : ℕ) → is_name_byte x ≡ false → is_name_byte c ≡ true → (c == x) ≡ false
other c x n h = elim (c == x) as (λ b. (c == x) ≡ b → b ≡ false) [
  | true ↦ λ e. let clash : false ≡ true = sym n ∙ sym (ap is_name_byte ((Decides-eqb c x).0 e)) ∙ h in absurd (cc)
  | false ↦ λ e. refl
] refl

byte_whole : (c : ℕ) → is_name_byte c ≡ true → breaks c ≡ false
byte_whole c h =
    or_false (c == 10) ((c == 32) || ((c == 40) || (c == 41))) (other c 10 refl h)
    (or_false (c == 32) ((c == 40) || (c == 41)) (other c 32 refl h) (or_false (c == 40) (c == 41) (other c 40 refl h) (other c 41 refl h)))

all_whole : (cs : List ℕ) → list_all is_name_byte cs ≡ true → list_any breaks cs ≡ false
all_whole [] h = refl
all_whole (c ∷ cs) h = let m = both (is_name_byte c) (list_all is_name_byte cs) h in or_false (breaks c) (list_any breaks cs) (byte_whole c m.0) (all_whole cs m.1)

own_whole : (found cs : List ℕ) → list_all is_name_byte found ≡ true → list_all is_name_byte cs ≡ true → list_all is_name_byte (after_dots found cs) ≡ true
own_whole found [] h k = h
own_whole found (c ∷ cs) h k =
    let m = both (is_name_byte c) (list_all is_name_byte cs) k in
    elim (c == 46) as (λ b. list_all is_name_byte (if b then after_dots cs cs else after_dots found cs) ≡ true) [ true ↦ own_whole cs cs m.1 m.1 | false ↦ own_whole found cs h m.1 ]

-- ---- where no number begins
after_dot : (cs : List ℕ) → has_no_number 46 cs ≡ true → begins_digit cs ≡ false
after_dot [] h = refl
after_dot (c ∷ cs) h = negated (is_decimal_digit c) (both (not (is_decimal_digit c)) (has_no_number c cs) h).0

own_start : (found cs : List ℕ) (before : ℕ) → begins_digit found ≡ false → has_no_number before cs ≡ true → begins_digit (after_dots found cs) ≡ false
own_start found [] before h k = h
own_start found (c ∷ cs) before h k =
    let m = both (not ((before == 46) && is_decimal_digit c)) (has_no_number c cs) k in
    elim (c == 46) as (λ b. (c == 46) ≡ b → begins_digit (if b then after_dots cs cs else after_dots found cs) ≡ false) [
      | true ↦ λ e.
          let dot : has_no_number 46 cs ≡ true = ap (λ v. has_no_number v cs) (sym ((Decides-eqb c 46).0 e)) ∙ m.1 in
          own_start cs cs 46 (after_dot cs dot) dot
      | false ↦ λ e. own_start found cs c h m.1
    ] refl

-- ---- names
ordinary : (e : SymbolTree) → IsScopedName e.name → IsOrdinary e
ordinary e h = record {
  start = own_start e.name e.name 46 (after_dot e.name h.parts) h.parts;
  whole = all_whole (own_name e.name) (own_whole e.name e.name h.bytes h.bytes);
}

pub scoped_names_are_spelt : ScopedNamesAreSpelt
scoped_names_are_spelt t l h = names_are_spelt t l (All-weaker (λ (e : SymbolTree). IsScopedName e.name) IsOrdinary ordinary t.symbols h)
