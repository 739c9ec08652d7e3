use Rattle.evidence.proofs.Formulas.{clash_names, clash_added}
use Rattle.evidence.proofs.by.by_clash.Goals as goal

pub by_rule-requires-clause-names : goal.by_rule-requires-clause-names
by_rule-requires-clause-names c = clash_names c.args.draft.now.task _ _

pub by_rule-requires-clause-added : goal.by_rule-requires-clause-added
by_rule-requires-clause-added c = clash_added c.args.draft.now c.args.front.now c.args.tail.now c.args.formula c.args.negation c.requires.clash
