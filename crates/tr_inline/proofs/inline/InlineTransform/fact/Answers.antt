use Rattle.tr_inline.proofs.Limits.{stage_here}
use Rattle.tr_inline.proofs.inline.InlineTransform.fact.Goals as goal

pub cite_rewritten-requires-clause-ready : goal.cite_rewritten-requires-clause-ready
cite_rewritten-requires-clause-ready c = tt

pub cite_rewritten-requires-clause-stage : goal.cite_rewritten-requires-clause-stage
cite_rewritten-requires-clause-stage c = stage_here c.args.self.now.mode c.mode_scope-scope.result c.mode_scope-scope.ensures c.args.draft.now c.args.from.now c.args.to.now c.requires.stage
