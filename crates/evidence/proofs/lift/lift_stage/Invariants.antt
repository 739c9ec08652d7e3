use Rattle.std.proofs.Common.{ℕ, ◌<◌}
use Rattle.tasks.specs.Meaning.{tasks_at}
use Rattle.evidence.specs.Drafts.{Extends}
use Rattle.evidence.specs.Stages.{HaveSequents, HasSequents, start_of, parts_at, part_or}
use Rattle.evidence.proofs.lift.lift_stage.Given as goal

abbrev pub invariant-loop-i : goal.invariant-loop-i
invariant-loop-i g l = record {
  grows : Extends l.initial.draft l.draft;
  ends : HaveSequents l.draft l.ends.items (start_of (tasks_at l.initial.draft.trees l.to.items)) l.i;
  sequents : (i : ℕ) → i < l.i → HasSequents l.draft (part_or (parts_at l.initial.draft.trees l.parts) i);
}
