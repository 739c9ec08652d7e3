use Rattle.evidence.specs.Stages.{parts_at}
use Rattle.evidence.specs.Laws.{Extends_trans}
use Rattle.stages.specs.Lifted.{HandedHasSequents}
use Rattle.stages.proofs.Sequents.{sequents_kept, either_way}
use Rattle.stages.proofs.lifting.lift_draft.Goals as goal

pub returns-clause-sequents : goal.returns-clause-sequents
returns-clause-sequents c =
    either_way c.finish.result (HandedHasSequents c.finish.new.draft.steps (parts_at c.args.draft.now.trees c.args.parts.now))
    (sequents_kept c.lift_stage.new.draft c.finish.new.draft (parts_at c.args.draft.now.trees c.args.parts.now) c.finish.ensures.grows c.in_ok-number.ensures.sequents)

pub returns-clause-grows : goal.returns-clause-grows
returns-clause-grows c = Extends_trans c.args.draft.now c.lift_stage.new.draft c.finish.new.draft c.lift_stage.ensures.grows c.finish.ensures.grows
