use Rattle.std.proofs.Common.{◌≡◌, ℕ, ◌<◌, get_or}
use Rattle.trees.specs.Node.{tree_at}
use Rattle.rules.specs.Meaning.{no_id}
use Rattle.rules.proofs.tried.same_list.Given as goal

abbrev pub invariant-loop-i : goal.invariant-loop-i
invariant-loop-i l = (k : ℕ) → k < l.i → tree_at l.store (get_or l.xs k no_id) ≡ tree_at l.store (get_or l.ys k no_id)
