use Rattle.std.proofs.Common.{ℕ, ◌<◌, get_or}
use Rattle.trees.specs.Node.{tree_at}
use Rattle.tasks.specs.Valid.{IsGroundFormula}
use Rattle.tasks.specs.Meaning.{task_at}
use Rattle.rules.specs.Meaning.{no_id}
use Rattle.kernel.proofs.typed.are_sentences.Given as goal

abbrev pub invariant-loop-formula : goal.invariant-loop-formula
invariant-loop-formula l = (i : ℕ) → i < l.formula-index → IsGroundFormula (task_at l.store l.task) (tree_at l.store (get_or l.sequent i no_id))
