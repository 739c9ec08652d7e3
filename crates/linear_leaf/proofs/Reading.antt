-- A term's reading, by what it is at its top.
use Rattle.std.proofs.Common.{◌≡◌, ℕ, Bool, true, false, ◌||◌, List, [], ◌∷◌, ◌++◌, refl}
use Rattle.std.proofs.Math.IntN.{ℤ}
use Rattle.trees.specs.Tree.{Tree, Leaf, One, Two, Three, HEnd, HNum, HCell, HFun}
use Rattle.trees.specs.declared.ints.Ints.{Ints}
use Rattle.linear_leaf.specs.Linear.{Sum, negated_or_same, with_two, atom, has_any, reading, SumOperation, Add, Subtract, Multiply, Other, sum_operation}
use Rattle.linear_leaf.specs.Views.{Top, one_top, two_top, top_of, read_top}

one_read : (z : Ints) (v : Tree → ℤ) (c : Bool) (e a : Tree) → negated_or_same v c e (reading z v a) ≡ read_top z v e (one_top c a)
one_read z v true e a = refl
one_read z v false e a = refl

two_read : (z : Ints) (v : Tree → ℤ) (op : SumOperation) (e a b : Tree) → with_two v op e (reading z v a) (reading z v b) ≡ read_top z v e (two_top op a b)
two_read z v Add e a b = refl
two_read z v Subtract e a b = refl
two_read z v Multiply e a b = refl
two_read z v Other e a b = refl

pub reading_top : (z : Ints) (v : Tree → ℤ) (e : Tree) → reading z v e ≡ read_top z v e (top_of z e)
unfolding reading
reading_top z v (Leaf (HNum n)) = refl
reading_top z v (Three (HFun f) types (Two HCell a (Leaf HEnd)) ty) = one_read z v _ _ a
reading_top z v (Three (HFun f) types (Two HCell a (Two HCell b (Leaf HEnd))) ty) = two_read z v _ _ a b
reading_top z v _ = refl

-- where what it is at its top is known
pub reading_is : (z : Ints) (v : Tree → ℤ) (e : Tree) (t : Top) → t ≡ top_of z e → reading z v e ≡ read_top z v e t
reading_is z v e t h = rw h (reading_top z v e)

pub any_append : (xs ys : List Tree) → has_any (xs ++ ys) ≡ (has_any xs || has_any ys)
any_append [] ys = refl
any_append (x ∷ xs) ys = refl
