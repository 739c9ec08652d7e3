use Rattle.tasks.specs.Meaning.{tasks_at}
use Rattle.evidence.specs.Laws.{AddsTrees_extends}
use Rattle.evidence.proofs.Lifted.{own_later}
use Rattle.tr_algebraic.proofs.Gluing.{plain_in_stage}
use Rattle.tr_algebraic.proofs.algebraic.AlgebraicTypesTransform.glue.Goals as goal

pub glue_rewritten-requires-clause-own : goal.glue_rewritten-requires-clause-own
glue_rewritten-requires-clause-own c = own_later c.args.draft.now c.changed_tasks.new.draft c.args.from.now (AddsTrees_extends c.args.draft.now c.changed_tasks.new.draft c.in_ok-plain.ensures.grows) c.requires.own

pub glue_rewritten-requires-clause-gives : goal.glue_rewritten-requires-clause-gives
glue_rewritten-requires-clause-gives c =
    let d = c.args.draft.now in
    let d1 = c.changed_tasks.new.draft in
    plain_in_stage d c.args.to.now.items c.requires.gives d1 (AddsTrees_extends d d1 c.in_ok-plain.ensures.grows) c.requires.own.valid (tasks_at d1.trees c.in_ok-plain.plain.items) c.in_ok-plain.ensures.tasks
