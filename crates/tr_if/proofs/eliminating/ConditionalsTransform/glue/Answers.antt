use Rattle.tasks.specs.Meaning.{tasks_at}
use Rattle.tr_if.specs.Kept.{if_gives}
use Rattle.tr_if.proofs.eliminating.ConditionalsTransform.glue.Goals as goal

pub glue_rewritten-requires-clause-gives : goal.glue_rewritten-requires-clause-gives
glue_rewritten-requires-clause-gives c = let d = c.args.draft.now in if_gives d.task (tasks_at d.trees c.args.to.now.items) c.requires.gives
