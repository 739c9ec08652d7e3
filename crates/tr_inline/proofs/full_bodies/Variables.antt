-- A variable of a number that no index is isn't used.
use Rattle.std.proofs.Common.{◌≡◌, ℕ, ◌+◌, ◌<◌, ◌≤◌, ◌⊎◌, inl, inr, min, Bool, false, refl, sym, ap, ◌∙◌, arith}
use Rattle.std.proofs.lemmas.Bool.{cases_lt}
use Rattle.std.proofs.lemmas.Bool.Decides.{nat_tests}
use Rattle.trees.specs.Tree.{Tree, Leaf, One, Two, Three, Head, HBound, binders_over}
use Rattle.trees.specs.Facts.{IndicesFit, index_fits}
use Rattle.tr_inline.specs.full_bodies.Least.{one_used, is_used}

one_unused : (h : Head) (d : ℕ) (u : Bool) → index_fits h → 18446744073709551615 ≤ d → u ≡ false → one_used h d u ≡ false
one_unused (HBound i) d u f l q = grind (arith, nat_tests, f, l)
one_unused _ d u f l q = q

pub unused_above : (d : ℕ) (e : Tree) → IndicesFit e → 18446744073709551615 ≤ d → is_used d e ≡ false
unused_above d (Leaf h) f l = refl
unused_above d (One h a) f l = one_unused h d (is_used d a) f.0 l (unused_above d a f.1 l)
unused_above d (Two h a b) f l =
    let p = unused_above d a f.0 l in
    let q = unused_above (d + binders_over h a) b f.1 (omega (arith, l)) in
    cc (p, q)
unused_above d (Three h a b c) f l =
    let p = unused_above d a f.0 l in
    let q = unused_above d b f.1 l in
    let r = unused_above d c f.2 l in
    cc (p, q, r)

-- the number of a variable under binders, as far as numbers go
pub used_under : (d m n : ℕ) (e : Tree) → IndicesFit e → n ≡ min (d + min m 18446744073709551615) 18446744073709551615 → is_used n e ≡ is_used (d + m) e
used_under d m n e f q = by (cases_lt (d + m) 18446744073709551615)
  where
    by : (d + m < 18446744073709551615) ⊎ (18446744073709551615 ≤ d + m) → is_used n e ≡ is_used (d + m) e
    by (inl l) = ap (λ (k : ℕ). is_used k e) (omega (arith, q, l))
    by (inr l) = unused_above n e f (omega (arith, q, l)) ∙ sym (unused_above (d + m) e f l)
