-- A multiple of an atom that isn't 0 tells two values of the atoms apart, where all other terms have lesser numbers.
use Rattle.std.proofs.Common.{◌≡◌, ◌≢◌, ℕ, ◌≤◌, ◌<◌, List, [], ◌∷◌, ◌++◌, length, Option, Some, None, IfSome, IsSome, refl, sym, ap, ◌∙◌, arith}
use Rattle.std.proofs.Math.IntN.{ℤ, pos, ◌+ℤ◌, ◌-ℤ◌, ◌*ℤ◌, *ℤ-zero, zero-*ℤ}
use Rattle.std.proofs.lemmas.Int.{ints}
use Rattle.trees.specs.declared.TermId.{TermId}
use Rattle.trees.specs.Tree.{Tree}
use Rattle.trees.specs.Node.{tree_at, Holds}
use Rattle.trees.specs.Facts.{Each}
use Rattle.trees.specs.declared.ints.Ints.{Ints}
use Rattle.linear_leaf.specs.Linear.{Sum, atom, reading, zeros}
use Rattle.linear_leaf.specs.Valuations.{one_at}
use Rattle.linear_leaf.proofs.Integers.{mul-one}
use Rattle.linear_leaf.proofs.Bounds.{one_same, one_other}
use Rattle.linear_leaf.proofs.Affine.{Lies, affine}
use Rattle.step_reading.specs.declared.shared_sums.pending.Pending.{Pending}
use Rattle.step_reading.specs.shared_sums.Known.{numbered_term, HasNumber}
use Rattle.step_reading.specs.shared_sums.Pending.{weighed, above_numbers, HaveTerms, value_at, Differs}
use Rattle.step_reading.proofs.shared_sums.Sums.{weighed_last}

-- each tree has one number
abbrev AreApart : List Tree → Type 0
AreApart s = (a b : TermId) → Holds s a → Holds s b → tree_at s a ≡ tree_at s b → a ≡ b

module _ (z : Ints) (s : List Tree) (apart : AreApart s) (k : ℕ) (held : k < length s) where
  abbrev one : Tree → ℤ
  one = one_at (Some (numbered_term s k))

  other_tree : (j : ℕ) → j < k → (q : Tree) → HasNumber s j q → numbered_term s k ≡ q → ⊥
  other_tree j l q h e =
      let i : TermId = record { 0 = h.number } in let w : TermId = record { 0 = k } in
      let g : w ≡ i = apart w i held h.held (e ∙ sym h.is) in
      let m : k ≡ h.number = ap (λ (x : TermId). x.0) g in omega (arith, h.below)

  lies : (j : ℕ) → j < k → (q : Tree) → HasNumber s j q → Lies one zeros zeros zeros (pos 0) q
  lies j l q h = record { line = let e = one_other (numbered_term s k) q (other_tree j l q h) in let y = zero-*ℤ (pos 0 -ℤ pos 0) in omega (arith, ints) }

  all_lie : (j : ℕ) → j < k → (qs : List Tree) → Each (HasNumber s j) qs → Each (Lies one zeros zeros zeros (pos 0)) qs
  all_lie j l [] h = tt
  all_lie j l (q ∷ qs) h = (lies j l q h.0, all_lie j l qs h.1)

  same_value : (j : ℕ) → j < k → Each (HasNumber s j) (reading z zeros (numbered_term s j)).atoms → value_at z s one j ≡ value_at z s zeros j
  same_value j l h =
      let r = affine one zeros zeros zeros (pos 0) z (numbered_term s j) (all_lie j l (reading z zeros (numbered_term s j)).atoms h) in
      let e = r.line in
      let y = zero-*ℤ ((reading z zeros (numbered_term s j)).value -ℤ (reading z zeros (numbered_term s j)).value) in omega (arith, ints)

  same_weighed : (es : List (ℕ × ℤ)) → above_numbers es ≤ k → HaveTerms z s es → weighed (value_at z s one) es ≡ weighed (value_at z s zeros) es
  same_weighed [] l h = refl
  same_weighed (e ∷ es) l h =
      let x : e.1 *ℤ value_at z s one e.0 ≡ e.1 *ℤ value_at z s zeros e.0 = ap (λ (i : ℤ). e.1 *ℤ i) (same_value e.0 (omega arith) h.0.1) in
      let y = same_weighed es (omega arith) h.1 in omega (arith, ints)

  apart_at : (c : Option ℤ) (n w w' a b x y : ℤ) → n ≢ pos 0 → w ≡ w' → a ≡ n → b ≡ pos 0 → IfSome c (λ i. i +ℤ (w +ℤ a) ≡ x) → IfSome c (λ i. i +ℤ (w' +ℤ b) ≡ y) → IsSome c → x ≢ y
  apart_at None n w w' a b x y o e f g h k q i = absurd cc
  apart_at (Some c) n w w' a b x y o e f g h k q i = o (omega (arith, ints))

  pub differs_next : (p q : Pending) (es : List (ℕ × ℤ)) (n : ℤ) → n ≢ pos 0 → p.multiples.entries ≡ es ++ (k, n) ∷ [] → q.constant ≡ p.constant → above_numbers es ≤ k → HaveTerms z s es
      → ((v : Tree → ℤ) → reading z v (numbered_term s k) ≡ atom v (numbered_term s k)) → Differs z s p q
  differs_next p q es n o last c l h a = record {
    one = one;
    other = zeros;
    apart = λ x y f g i.
        let v : value_at z s one k ≡ pos 1 = ap (λ (r : Sum). r.value) (a one) ∙ one_same (numbered_term s k) (numbered_term s k) refl in
        let w : value_at z s zeros k ≡ pos 0 = ap (λ (r : Sum). r.value) (a zeros) in
        let f' : IfSome p.constant (λ i. i +ℤ (weighed (value_at z s one) es +ℤ n *ℤ value_at z s one k) ≡ x) = rw (last, weighed_last (value_at z s one) es (k, n)) at f in
        let g' : IfSome p.constant (λ i. i +ℤ (weighed (value_at z s zeros) es +ℤ n *ℤ value_at z s zeros k) ≡ y) = rw (last, weighed_last (value_at z s zeros) es (k, n)) at g in
        let j : IsSome p.constant = rw c at i in
        apart_at p.constant n (weighed (value_at z s one) es) (weighed (value_at z s zeros) es) (n *ℤ value_at z s one k) (n *ℤ value_at z s zeros k) x y o (same_weighed es l h)
        (ap (λ (r : ℤ). n *ℤ r) v ∙ mul-one n) (ap (λ (r : ℤ). n *ℤ r) w ∙ *ℤ-zero n) f' g' j;
  }
