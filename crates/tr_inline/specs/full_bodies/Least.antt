-- The least size and height of the instances of a tree: a variable may become a term of one node.
-- And which variables are used.
use Rattle.std.specs.Prelude.{ℕ, ◌+◌, ◌<◌, ◌==◌, max, Bool, false, ◌||◌, ◌⊎◌}
use Rattle.trees.specs.Tree.{Tree, Leaf, One, Two, Three, Head, HBound, binders_over}

abbrev pub one_least : Head → ℕ → ℕ
one_least (HBound i) n = 1
one_least _ n = n + 1

-- the numbers of the parts, joined, and one more
abbrev pub least_by : (ℕ → ℕ → ℕ) → Tree → ℕ
least_by j (Leaf h) = 1
least_by j (One h a) = one_least h (least_by j a)
least_by j (Two h a b) = j (least_by j a) (least_by j b) + 1
least_by j (Three h a b c) = j (least_by j a) (j (least_by j b) (least_by j c)) + 1

abbrev pub added : ℕ → ℕ → ℕ
added m n = m + n

abbrev pub least_size : Tree → ℕ
least_size e = least_by added e

abbrev pub least_height : Tree → ℕ
least_height e = least_by max e

-- each instance has more than 2^20 nodes, or is higher than 2,000
abbrev pub HasLargeInstances : Tree → Type 0
HasLargeInstances e = (1048576 < least_size e) ⊎ (2000 < least_height e)

abbrev pub one_used : Head → ℕ → Bool → Bool
one_used (HBound i) d inner = i == d
one_used _ d inner = inner

-- whether the variable of this number of binders up is used
abbrev pub is_used : ℕ → Tree → Bool
is_used d (Leaf h) = false
is_used d (One h a) = one_used h d (is_used d a)
is_used d (Two h a b) = is_used d a || is_used (d + binders_over h a) b
is_used d (Three h a b c) = is_used d a || (is_used d b || is_used d c)
