use Rattle.step_lines.proofs.rule_words.ReadBack.{written-back, written-kinds, written-held}
use Rattle.step_lines.proofs.rule_words.rule.written_rule.Goals as goal

pub returns-clause-reads_back : goal.returns-clause-reads_back
returns-clause-reads_back c = written-back c.args.rule.now _ _ c.name_of.ensures c.in_ok-arguments.ensures

pub returns-clause-kinds : goal.returns-clause-kinds
returns-clause-kinds c = written-kinds c.args.rule.now _ _ c.name_of.ensures c.in_ok-arguments.ensures

pub returns-clause-held : goal.returns-clause-held
returns-clause-held c = written-held c.args.rule.now _ c.in_ok-arguments.ensures
