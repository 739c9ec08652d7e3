use Rattle.std.proofs.Common.{◌≢◌, ℕ, ◌<◌, get_or}
use Rattle.trees.specs.declared.Node.TheVariants.{End}
use Rattle.trees.proofs.store.plain.find.Given as goal

abbrev pub invariant-loop-i : goal.invariant-loop-i
invariant-loop-i l = (k : ℕ) → k < l.i → get_or l.nodes k End ≢ l.node
