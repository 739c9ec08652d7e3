-- Turns of the reading of a number's digits.
use Rattle.std.proofs.Common.{◌≡◌, ℕ, ◌+◌, ◌*◌, ◌-◌, ◌<◌, ◌≤◌, Bool, true, false, ◌&&◌, nat_le, nat_lt, if◌then◌else◌, List, length, get_or, drop, Option, None, sym, ap, subst, ◌∙◌, arith}
use Rattle.std.proofs.lemmas.Bool.Decides.{nat_tests}
use Rattle.std.proofs.lemmas.List.{drop_more}
use Rattle.word_tables.specs.integers.Integers.{number_from}

abbrev pub goes_on : ℕ → ℕ → ℕ → Bool
goes_on bound n c = (nat_le 48 c && nat_le c 57) && nat_lt (n * 10 + (c - 48)) bound

module _ (bound n : ℕ) (cs : List ℕ) (i d : ℕ) (whole : Option ℕ) (l : i < length cs) (h : number_from bound n (drop i cs) ≡ whole) where
  by_test : (b : Bool) → goes_on bound n (get_or cs i d) ≡ b → (if b then number_from bound (n * 10 + (get_or cs i d - 48)) (drop (i + 1) cs) else None) ≡ whole
  by_test b e = sym (ap (λ (z : Bool). if z then number_from bound (n * 10 + (get_or cs i d - 48)) (drop (i + 1) cs) else None) e) ∙ ap (number_from bound n) (sym (drop_more cs i d l)) ∙ h

  pub digit_more : (k m : ℕ) → 48 ≤ get_or cs i d → get_or cs i d ≤ 57 → k ≡ n → m ≡ get_or cs i d - 48 → k * 10 + m < bound → number_from bound (k * 10 + m) (drop (i + 1) cs) ≡ whole
  digit_more k m low high e f lt =
      let same : k * 10 + m ≡ n * 10 + (get_or cs i d - 48) = ap (λ z. z * 10 + m) e ∙ ap (λ z. n * 10 + z) f in
      let below : n * 10 + (get_or cs i d - 48) < bound = subst (λ z. z < bound) same lt in
      let test : goes_on bound n (get_or cs i d) ≡ true = grind (arith, nat_tests) in
      ap (λ z. number_from bound z (drop (i + 1) cs)) same ∙ by_test true test

  pub too_low : get_or cs i d < 48 → None ≡ whole
  too_low lt = let test : goes_on bound n (get_or cs i d) ≡ false = grind (arith, nat_tests) in by_test false test

  pub too_high : 57 < get_or cs i d → None ≡ whole
  too_high lt = let test : goes_on bound n (get_or cs i d) ≡ false = grind (arith, nat_tests) in by_test false test

  pub too_large : (k m : ℕ) → k ≡ n → m ≡ get_or cs i d - 48 → bound ≤ k * 10 + m → None ≡ whole
  too_large k m e f le =
      let same : k * 10 + m ≡ n * 10 + (get_or cs i d - 48) = ap (λ z. z * 10 + m) e ∙ ap (λ z. n * 10 + z) f in
      let above : bound ≤ n * 10 + (get_or cs i d - 48) = subst (λ z. bound ≤ z) same le in
      let test : goes_on bound n (get_or cs i d) ≡ false = grind (arith, nat_tests) in
      by_test false test
