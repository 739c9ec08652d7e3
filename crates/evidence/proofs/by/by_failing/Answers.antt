use Rattle.evidence.proofs.Formulas.{failing_names, failing_added}
use Rattle.evidence.proofs.by.by_failing.Goals as goal

pub by_rule-requires-clause-held : goal.by_rule-requires-clause-held
by_rule-requires-clause-held c = c.failing_rule-rule.ensures.held c.args.draft.now.trees

pub by_rule-requires-clause-names : goal.by_rule-requires-clause-names
by_rule-requires-clause-names c = rw (c.failing_rule-rule.ensures.tree c.args.draft.now.trees) (failing_names c.args.draft.now.task c.args.op _)

pub by_rule-requires-clause-added : goal.by_rule-requires-clause-added
by_rule-requires-clause-added c = rw (c.failing_rule-rule.ensures.tree c.args.draft.now.trees) (failing_added c.args.draft.now c.args.front.now c.args.tail.now c.args.op c.args.place c.args.premises.now c.requires.joined)
