use Rattle.std.proofs.Common.{◌≡◌, ℕ, ◌<◌, get_or, false}
use Rattle.tasks.specs.trees.Facts.{has_param}
use Rattle.tasks.specs.trees.Node.{tree_at}
use Rattle.rules.specs.Meaning.{no_id}
use Rattle.step_reading.specs.quick_steps.Parameters.{LackParameter}
use Rattle.step_reading.proofs.quick_steps.parameters.is_new.Given as goal

abbrev pub invariant-loop-formula : goal.invariant-loop-formula
invariant-loop-formula l = ((i : ℕ) → i < l.formula-index → has_param (tree_at l.store (get_or l.sequent i no_id)) l.number ≡ false) × LackParameter l.number l.store l.clear
