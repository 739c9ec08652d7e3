use Rattle.std.proofs.Common.{subst, List}
use Rattle.trees.specs.Tree.{Tree}
use Rattle.rules.specs.Meaning.{steps_at}
use Rattle.evidence.specs.Drafts.{Refutes}
use Rattle.evidence.specs.Stages.{sequent_of_step}
use Rattle.evidence.specs.Laws.{Extends_trans}
use Rattle.evidence.proofs.Lifted.{in_stage_later, part_right, stand_part, step_sequent, have_more}
use Rattle.evidence.proofs.lift.lift_part.Goals as goal

pub lift_step-requires-clause-stage : goal.lift_step-requires-clause-stage
lift_step-requires-clause-stage g c = in_stage_later (g.T.Transform.equation c.args.stage.now) c.args.draft.now c.loop-j.draft c.args.from.now c.args.to.now c.loop-j.invariant.grows c.requires.stage

pub lift_step-requires-clause-right : goal.lift_step-requires-clause-right
lift_step-requires-clause-right g c = part_right c.args.draft.now c.loop-j.draft c.args.part.now c.loop-j.invariant.grows c.requires.held c.args.to.now c.loop-j.j c.index-part-j.result
    c.requires.stage.held c.requires.right c.loop-j-test.true c.index-part-j.is

pub lift_step-requires-clause-numbers : goal.lift_step-requires-clause-numbers
lift_step-requires-clause-numbers g c = stand_part c.args.draft.now c.loop-j.draft c.args.part.now c.loop-j.invariant.grows c.requires.held c.loop-j.j c.loop-j.numbers.items c.deref.result.now
    c.loop-j-test.true c.deref.ensures.value c.loop-j.invariant.numbers

pub returns-in_err-number-clause-grows : goal.returns-in_err-number-clause-grows
returns-in_err-number-clause-grows g c = Extends_trans _ _ _ c.loop-j.invariant.grows c.lift_step.ensures.grows

pub returns-in_err-push-clause-grows : goal.returns-in_err-push-clause-grows
returns-in_err-push-clause-grows g c = Extends_trans _ _ _ c.loop-j.invariant.grows c.lift_step.ensures.grows

pub loop-j-preserved : goal.loop-j-preserved
loop-j-preserved g c =
    let d = c.args.draft.now in
    let d1 = c.loop-j.draft in
    let d2 = c.lift_step.new.draft in
    let j = c.loop-j.j in
    let x = c.index-part-j.result in
    let e = step_sequent d d1 c.args.part.now c.loop-j.invariant.grows c.requires.held j x c.loop-j-test.true c.index-part-j.is in
    record {
      grows = Extends_trans _ _ _ c.loop-j.invariant.grows c.lift_step.ensures.grows;
      numbers = rw c.in_ok-push.ensures.items (have_more d1 d2 c.loop-j.numbers.items (sequent_of_step (steps_at d.trees c.args.part.now)) j c.in_ok-number.number
          c.lift_step.ensures.grows c.loop-j.invariant.numbers (subst (λ (q : List Tree). Refutes d2 c.in_ok-number.number q) e c.in_ok-number.ensures.refutes));
    }
