use Rattle.tasks.specs.Meaning.{algebraics_at}
use Rattle.checks.proofs.decl_checks.Saturated.{AreKnown, left_out}
use Rattle.checks.proofs.decl_checks.values.are_inhabited.Given as goal

abbrev pub invariant-loop-symbol : goal.invariant-loop-symbol
invariant-loop-symbol l = AreKnown (algebraics_at l.store l.types) l.known.items

abbrev pub decreases-loop-symbol : goal.decreases-loop-symbol
decreases-loop-symbol l = left_out l.known.items (algebraics_at l.store l.types)
