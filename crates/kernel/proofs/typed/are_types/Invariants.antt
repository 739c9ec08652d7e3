use Rattle.std.proofs.Common.{ℕ, ◌<◌, get_or}
use Rattle.trees.specs.Node.{tree_at}
use Rattle.tasks.specs.Valid.{IsTypeOver}
use Rattle.tasks.specs.Meaning.{task_at}
use Rattle.rules.specs.Meaning.{no_id}
use Rattle.kernel.proofs.typed.are_types.Given as goal

abbrev pub invariant-loop-ty : goal.invariant-loop-ty
invariant-loop-ty l = (i : ℕ) → i < l.ty-index → IsTypeOver (task_at l.store l.task) 0 (tree_at l.store (get_or l.types i no_id))
