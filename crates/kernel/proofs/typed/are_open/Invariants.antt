use Rattle.std.proofs.Common.{ℕ, ◌<◌, get_or}
use Rattle.tasks.specs.Meaning.{task_at}
use Rattle.rules.specs.Meaning.{no_id}
use Rattle.kernel.specs.Open.{IsOpen}
use Rattle.kernel.proofs.typed.are_open.Given as goal

abbrev pub invariant-loop-id : goal.invariant-loop-id
invariant-loop-id l = (i : ℕ) → i < l.id-index → IsOpen (task_at l.store l.task) l.store (get_or l.ids i no_id)
