use Rattle.trees.specs.Node.{Grows}
use Rattle.open_types.specs.Drafts.{IsTaken}
use Rattle.open_types.proofs.draft.unknowns.Given as goal

abbrev pub invariant-loop-number : goal.invariant-loop-number
invariant-loop-number l = IsTaken l.fn.store l.fn.draft l.store l.draft l.token l._number l.types.items × Grows l.fn.store l.store
