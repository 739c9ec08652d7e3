use Rattle.std.proofs.Common.{◌≡◌, ℕ, ◌<◌, get_or, false}
use Rattle.trees.specs.Facts.{has_param}
use Rattle.trees.specs.Node.{tree_at}
use Rattle.rules.specs.Meaning.{no_id}
use Rattle.rules.proofs.quantifiers.is_new.Given as goal

abbrev pub invariant-loop-formula : goal.invariant-loop-formula
invariant-loop-formula l = (i : ℕ) → i < l.formula-index → has_param (tree_at l.store (get_or l.sequent i no_id)) l.number ≡ false
