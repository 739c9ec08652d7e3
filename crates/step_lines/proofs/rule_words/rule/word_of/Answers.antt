use Rattle.std.proofs.Common.{ap, ◌∙◌}
use Rattle.step_lines.specs.rule_words.Rules.{name_by_word}
use Rattle.step_lines.proofs.rule_words.Words.{word_read_back}
use Rattle.step_lines.proofs.rule_words.rule.word_of.Goals as goal

pub returns-clause-word : goal.returns-clause-word
returns-clause-word c = c.word_in_row.ensures

pub returns-clause-reads_back : goal.returns-clause-reads_back
returns-clause-reads_back c = ap name_by_word c.word_in_row.ensures ∙ word_read_back c.args.name
