-- Sums of multiples of terms, which are told by their numbers.
use Rattle.std.specs.Prelude.{◌≡◌, ◌≢◌, ℕ, ℤ, pos, ◌+ℤ◌, ◌*ℤ◌, ◌<◌, List, [], ◌∷◌, length, max, ◌+◌, Bool, true, false, IfSome, IsSome}
use Rattle.trees.specs.Tree.{Tree}
use Rattle.trees.specs.declared.ints.Ints.{Ints}
use Rattle.linear_leaf.specs.Linear.{reading, atom, with_two, Multiply}
use Rattle.step_reading.specs.declared.shared_sums.pending.Pending.{Pending}
use Rattle.step_reading.specs.declared.shared_sums.pending.Next.{Next}
use Rattle.step_reading.specs.declared.shared_sums.pending.Next.TheVariants as next
use Rattle.step_reading.specs.shared_sums.Known.{IsInteger, numbered_term, AreNumbered}

-- the sum of multiples of what numbers stand for
abbrev pub weighed : (ℕ → ℤ) → List (ℕ × ℤ) → ℤ
weighed f [] = pos 0
weighed f (e ∷ es) = e.1 *ℤ f e.0 +ℤ weighed f es

-- the least number above the numbers that are there
abbrev pub above_numbers : List (ℕ × ℤ) → ℕ
above_numbers [] = 0
above_numbers (e ∷ es) = max (e.0 + 1) (above_numbers es)

-- the term of a number, whose atoms have numbers up to it
abbrev pub IsTerm : Ints → List Tree → ℕ → Type 0
IsTerm z s k = (k < length s) × AreNumbered z s k

abbrev pub HaveTerms : Ints → List Tree → List (ℕ × ℤ) → Type 0
HaveTerms z s [] = Unit {0}
HaveTerms z s (e ∷ es) = IsTerm z s e.0 × HaveTerms z s es

-- the value of the term of a number
abbrev pub value_at : Ints → List Tree → (Tree → ℤ) → ℕ → ℤ
value_at z s v k = (reading z v (numbered_term s k)).value

-- what is pending is a number in all, where nothing was too great
abbrev pub IsSum : (ℕ → ℤ) → Pending → ℤ → Type 0
IsSum f p n = IfSome p.constant (λ c. c +ℤ weighed f p.multiples.entries ≡ n)

-- taken apart at a multiple of a tree: the parts stand for it; or it is an atom
abbrev pub IsSpread : Ints → List Tree → Tree → ℤ → Bool → Pending → Pending → Type 0
IsSpread z s t n true p q = (v : Tree → ℤ) (x : ℤ) → IsSum (value_at z s v) p x
    → IsSum (value_at z s v) q (x +ℤ n *ℤ (reading z v t).value)
IsSpread z s t n false p q = ((v : Tree → ℤ) → reading z v t ≡ atom v t) × (q.constant ≡ p.constant)

-- a product of two terms, as long as it isn't known whether it is an atom
abbrev pub IsProduct : Ints → Tree → Tree → Tree → Type 0
IsProduct z t a b =
    (v : Tree → ℤ) → reading z v t ≡ with_two v Multiply t (reading z v a) (reading z v b)

-- the same in all, whatever the atoms are
abbrev pub Carries : Ints → List Tree → Pending → Pending → Type 0
Carries z s p q = (v : Tree → ℤ) (x : ℤ) → IsSum (value_at z s v) p x → IsSum (value_at z s v) q x

-- whatever its atoms are, what was pending is the constant that is left
abbrev pub IsFlat : Ints → List Tree → Pending → Pending → Type 0
IsFlat z s p q = (v : Tree → ℤ) (n : ℤ) → IsSum (value_at z s v) p n → IsInteger n q.constant

-- at some values of the atoms what was pending isn't the same
pub record Differs (z : Ints) (s : List Tree) (p q : Pending) : Type 0 where
  pub one : Tree → ℤ
  pub other : Tree → ℤ
  pub apart : (m n : ℤ) → IsSum (value_at z s one) p m → IsSum (value_at z s other) p n
      → IsSome q.constant → m ≢ n

-- after its greatest multiple was taken apart: none was there; or it was one of an atom, and not 0;
-- or the same is pending by lesser numbers
abbrev pub IsNext : Ints → List Tree → Pending → Pending → Next → Type 0
IsNext z s p q next.Done = IsFlat z s p q
IsNext z s p q next.Atom = Differs z s p q
IsNext z s p q next.More = Carries z s p q × HaveTerms z s q.multiples.entries
    × (above_numbers q.multiples.entries < above_numbers p.multiples.entries)
