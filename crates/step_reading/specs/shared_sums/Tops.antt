-- What the code has of a term at its top.
use Rattle.std.specs.Prelude.{ℕ, ◌<◌, List}
use Rattle.trees.specs.Tree.{Tree}
use Rattle.trees.specs.Node.{tree_at}
use Rattle.linear_leaf.specs.Linear.{Add, Subtract, Multiply}
use Rattle.linear_leaf.specs.Views.{Top, Number, Negated, Applied, Atom}
use Rattle.step_reading.specs.declared.shared_sums.summands.Summand.{Summand}
use Rattle.step_reading.specs.declared.shared_sums.summands.Summand.TheVariants as code

abbrev pub top_by : List Tree → Summand → Top
top_by s (code.Number n) = Number n
top_by s (code.Negated a) = Negated (tree_at s a)
top_by s (code.Plus a b) = Applied Add (tree_at s a) (tree_at s b)
top_by s (code.Minus a b) = Applied Subtract (tree_at s a) (tree_at s b)
top_by s (code.Times a b) = Applied Multiply (tree_at s a) (tree_at s b)
top_by s code.Atom = Atom

-- the parts are below a number
abbrev pub ArePartsBelow : ℕ → Summand → Type 0
ArePartsBelow k (code.Number n) = Unit {0}
ArePartsBelow k (code.Negated a) = a.0 < k
ArePartsBelow k (code.Plus a b) = (a.0 < k) × (b.0 < k)
ArePartsBelow k (code.Minus a b) = (a.0 < k) × (b.0 < k)
ArePartsBelow k (code.Times a b) = (a.0 < k) × (b.0 < k)
ArePartsBelow k code.Atom = Unit {0}
