use Rattle.std.proofs.Common.{take}
use Rattle.kernel.specs.tasks.Meaning.{trees_at}
use Rattle.step_writing.specs.Words.{PushesSequent}
use Rattle.step_writing.proofs.words.push_sequent.Given as goal

abbrev pub invariant-loop-id : goal.invariant-loop-id
invariant-loop-id l = PushesSequent l.x l.initial.text.items l.text.items (trees_at l.x.store.now (take l.id-index l.formulas))
