use Rattle.rules.specs.Meaning.{steps_at}
use Rattle.evidence.specs.Drafts.{Extends}
use Rattle.evidence.specs.Stages.{HaveSequents, sequent_of_step}
use Rattle.evidence.proofs.lift.lift_part.Given as goal

abbrev pub invariant-loop-j : goal.invariant-loop-j
invariant-loop-j g l = record {
  grows : Extends l.initial.draft l.draft;
  numbers : HaveSequents l.draft l.numbers.items (sequent_of_step (steps_at l.initial.draft.trees l.part)) l.j;
}
