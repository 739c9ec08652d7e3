use Rattle.tasks.specs.Meaning.{tasks_at}
use Rattle.tr_inline.proofs.Limits.{gives_here}
use Rattle.tr_inline.proofs.inline.InlineTransform.glue.Goals as goal

pub glue_rewritten-requires-clause-ready : goal.glue_rewritten-requires-clause-ready
glue_rewritten-requires-clause-ready c = tt

pub glue_rewritten-requires-clause-gives : goal.glue_rewritten-requires-clause-gives
glue_rewritten-requires-clause-gives c =
    let d = c.args.draft.now in
    gives_here c.args.self.now.mode c.mode_scope-scope.result c.mode_scope-scope.ensures d.task (tasks_at d.trees c.args.to.now.items) c.requires.gives
