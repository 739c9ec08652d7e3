-- Laws of truth values.
use Rattle.std.proofs.Common.{Bool, arith, false, not, refl, true, ℕ, ◌&&◌, ◌==◌, ◌||◌, ◌≡◌}
use Rattle.std.proofs.lemmas.Bool.Decides.{nat_tests}

pub and_first : (p q : Bool) → (p && q) ≡ true → p ≡ true
and_first true q h = refl
and_first false q h = h

pub and_second : (p q : Bool) → (p && q) ≡ true → q ≡ true
and_second true q h = h
and_second false q h = absurd (cc)

pub and_both : (a b : Bool) → (a && b) ≡ true → (a ≡ true) × (b ≡ true)
and_both true b e = (refl, e)
and_both false b e = absurd (cc)

pub or_first : (p q : Bool) → (p || q) ≡ false → p ≡ false
or_first true q h = h
or_first false q h = refl

pub or_second : (p q : Bool) → (p || q) ≡ false → q ≡ false
or_second true q h = absurd (cc)
or_second false q h = h

pub same_number : (x y : ℕ) → (x == y) ≡ true → x ≡ y
same_number x y e = grind (arith, nat_tests)

pub negated : (a : Bool) → not a ≡ true → a ≡ false
negated true h = absurd (cc)
negated false h = refl
