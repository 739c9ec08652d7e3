use Rattle.std.proofs.Common.{◌∙◌, sym}
use Rattle.evidence.proofs.proof_scripts.Placed.{holding_after, failing_after}
use Rattle.evidence.proofs.proof_scripts.line.rule_of.Goals as goal

pub returns-in-Holding-clause-tree : goal.returns-in-Holding-clause-tree
returns-in-Holding-clause-tree c = λ s. rw c.in-Holding.is (c.holding_rule.ensures.tree s ∙ sym (holding_after c.args.before c.in-Holding.i c.in-Holding.op))

pub returns-in-Failing-clause-tree : goal.returns-in-Failing-clause-tree
returns-in-Failing-clause-tree c = λ s. rw c.in-Failing.is (c.failing_rule.ensures.tree s ∙ sym (failing_after c.args.before c.in-Failing.i c.in-Failing.op))

pub returns-in-Holding-clause-held : goal.returns-in-Holding-clause-held
returns-in-Holding-clause-held c = λ s h. c.holding_rule.ensures.held s

pub returns-in-Failing-clause-held : goal.returns-in-Failing-clause-held
returns-in-Failing-clause-held c = λ s h. c.failing_rule.ensures.held s
