use Rattle.std.proofs.Common.{◌≤◌, arith}
use Rattle.tasks.specs.trees.Tree.{Tree, Leaf, One, Two, Three, height}
use Rattle.tasks.specs.trees.Node.{tree_at}
use Rattle.step_reading.proofs.Progress.{no_true}
use Rattle.step_reading.proofs.good.+is_no_taller.Goals as goal

some_height : (e : Tree) → 1 ≤ height e
some_height (Leaf h) = omega arith
some_height (One h a) = omega arith
some_height (Two h a b) = omega arith
some_height (Three h a b c) = omega arith

pub returns-then-most-eq0 : goal.returns-then-most-eq0
returns-then-most-eq0 t c = (λ h. absurd (no_true h), λ le. absurd (omega (arith, some_height (tree_at c.args.store.now c.args.id), le, c.if-most-eq0.true)))
