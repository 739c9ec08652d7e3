-- What a term is at its top, as a sum: the definition's cases as data, and what the code has of
-- them.
use Rattle.std.specs.Prelude.{ℕ, ℤ, Bool, true, false, ◌==◌, ◌<◌, List}
use Rattle.trees.specs.declared.TermId.{TermId}
use Rattle.trees.specs.Tree.{Tree, Leaf, Two, Three, HEnd, HNum, HCell, HFun}
use Rattle.trees.specs.Node.{tree_at}
use Rattle.trees.specs.declared.ints.Ints.{Ints}
use Rattle.linear_leaf.specs.declared.terms.Summand.{Summand}
use Rattle.linear_leaf.specs.declared.terms.Summand.TheVariants as code
use Rattle.linear_leaf.specs.Linear.{Sum, constant_sum, negated_or_same, with_two, atom, reading, SumOperation, Add, Subtract, Multiply, Other, sum_operation}

pub data Top : Type 0 where
  Number : ℤ → Top
  Negated : Tree → Top
  Applied : SumOperation → Tree → Tree → Top
  Atom : Top

abbrev pub one_top : Bool → Tree → Top
one_top true a = Negated a
one_top false a = Atom

abbrev pub two_top : SumOperation → Tree → Tree → Top
two_top Add a b = Applied Add a b
two_top Subtract a b = Applied Subtract a b
two_top Multiply a b = Applied Multiply a b
two_top Other a b = Atom

abbrev pub top_of : Ints → Tree → Top
top_of z (Leaf (HNum n)) = Number n
top_of z (Three (HFun f) types (Two HCell a (Leaf HEnd)) ty) = one_top (f == z.neg) a
top_of z (Three (HFun f) types (Two HCell a (Two HCell b (Leaf HEnd))) ty) =
    two_top (sum_operation z f) a b
top_of z e = Atom

abbrev pub top_at : List Tree → Summand → Top
top_at s (code.Number n) = Number n
top_at s (code.Negated a) = Negated (tree_at s a)
top_at s (code.Plus a b) = Applied Add (tree_at s a) (tree_at s b)
top_at s (code.Minus a b) = Applied Subtract (tree_at s a) (tree_at s b)
top_at s (code.Times a b) = Applied Multiply (tree_at s a) (tree_at s b)
top_at s code.Atom = Atom

-- the parts are below a number
abbrev pub PartsBelow : ℕ → Summand → Type 0
PartsBelow k (code.Number n) = Unit {0}
PartsBelow k (code.Negated a) = a.0 < k
PartsBelow k (code.Plus a b) = (a.0 < k) × (b.0 < k)
PartsBelow k (code.Minus a b) = (a.0 < k) × (b.0 < k)
PartsBelow k (code.Times a b) = (a.0 < k) × (b.0 < k)
PartsBelow k code.Atom = Unit {0}

abbrev pub read_top : Ints → (Tree → ℤ) → Tree → Top → Sum
read_top z v e (Number n) = constant_sum n
read_top z v e (Negated a) = negated_or_same v true e (reading z v a)
read_top z v e (Applied op a b) = with_two v op e (reading z v a) (reading z v b)
read_top z v e Atom = atom v e
