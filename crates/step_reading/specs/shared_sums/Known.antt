-- What is known of a term as a sum, and what a table has of terms by their numbers.
use Rattle.std.specs.Prelude.{◌≡◌, ℕ, ℤ, ◌≤◌, ◌<◌, ◌^◌, ◌-◌, min, nat_eq, List, length, get_or, Option, Some, IfSome}
use Rattle.std.specs.HashMap.{HashMap, get}
use Rattle.trees.specs.Tree.{Tree, Leaf, HEnd}
use Rattle.trees.specs.Facts.{Each}
use Rattle.trees.specs.declared.ints.Ints.{Ints}
use Rattle.linear_leaf.specs.Linear.{Sum, has_any, reading, zeros}
use Rattle.step_reading.specs.declared.shared_sums.known.Known.{Known}

-- an integer, where it fits
abbrev pub IsInteger : ℤ → Option ℤ → Type 0
IsInteger n o = IfSome o (λ x. x ≡ n)

-- of a sum whose atoms are 0: its weight or the greatest number, whether it has an atom, and its
-- value where it fits
pub record TellsSum (a : Sum) (x : Known) : Type 0 where
  pub weight : x.weight ≡ min a.weight (2 ^ 128 - 1)
  pub has_atom : x.has_atom ≡ has_any a.atoms
  pub value : IsInteger a.value x.value

abbrev pub numbered_term : List Tree → ℕ → Tree
numbered_term s k = get_or s k (Leaf HEnd)

-- a tree has a number up to another
pub record HasNumber (s : List Tree) (k : ℕ) (t : Tree) : Type 0 where
  pub number : ℕ
  pub held : number < length s
  pub below : number ≤ k
  pub is : numbered_term s number ≡ t

-- each atom of the term of a number has a number up to it
abbrev pub AreNumbered : Ints → List Tree → ℕ → Type 0
AreNumbered z s k = Each (HasNumber s k) (reading z zeros (numbered_term s k)).atoms

pub record IsKnown (z : Ints) (s : List Tree) (k : ℕ) (x : Known) : Type 0 where
  pub told : TellsSum (reading z zeros (numbered_term s k)) x
  pub numbered : AreNumbered z s k

abbrev pub AreKnownTerms : {S : Type 0} → Ints → List Tree → HashMap ℕ Known S → Type 0
AreKnownTerms z s m = (k : ℕ) (x : Known) → get nat_eq m k ≡ Some x → IsKnown z s k x
