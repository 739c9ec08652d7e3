-- Which variables are open in a tree, by numbers as far as they go.
use Rattle.std.proofs.Common.{◌≡◌, ℕ, ◌+◌, ◌<◌, ◌≤◌, ◌⊎◌, inl, inr, min, Bool, false, ◌||◌, refl, sym, ap, ◌∙◌, arith}
use Rattle.std.proofs.lemmas.Bool.{cases_lt}
use Rattle.std.proofs.lemmas.Bool.Decides.{nat_tests}
use Rattle.trees.specs.Tree.{Tree, Leaf, One, Two, Three, Head, HBound, binders_over}
use Rattle.trees.specs.Facts.{IndicesFit, index_fits, one_open, is_open}

one_none : (h : Head) (d : ℕ) → index_fits h → 18446744073709551615 ≤ d → one_open h d ≡ false
one_none (HBound i) d f l = grind (arith, nat_tests, f, l)
one_none _ d f l = refl

none_above : (d : ℕ) (e : Tree) → IndicesFit e → 18446744073709551615 ≤ d → is_open d e ≡ false
none_above d (Leaf h) f l = refl
none_above d (One h a) f l = cc (one_none h d f.0 l, none_above d a f.1 l)
none_above d (Two h a b) f l = cc (none_above d a f.0 l, none_above (d + binders_over h a) b f.1 (omega (arith, l)))
none_above d (Three h a b c) f l = cc (none_above d a f.0 l, none_above d b f.1 l, none_above d c f.2 l)

-- the number of a variable under binders
pub open_under : (d m n : ℕ) (e : Tree) → IndicesFit e → n ≡ min (d + min m 18446744073709551615) 18446744073709551615 → is_open n e ≡ is_open (d + m) e
open_under d m n e f q = by (cases_lt (d + m) 18446744073709551615)
  where
    by : (d + m < 18446744073709551615) ⊎ (18446744073709551615 ≤ d + m) → is_open n e ≡ is_open (d + m) e
    by (inl l) = ap (λ (k : ℕ). is_open k e) (omega (arith, q, l))
    by (inr l) = none_above n e f (omega (arith, q, l)) ∙ sym (none_above (d + m) e f l)
