use Rattle.std.proofs.Common.{◌≡◌, drop}
use Rattle.step_lines.specs.rule_words.Arguments.{arguments_at, number_in}
use Rattle.step_lines.specs.rule_words.Forms.{each_argument, each_from}
use Rattle.step_lines.proofs.rule_words.lists.any_numbers.Given as goal

abbrev pub invariant-loop-argument : goal.invariant-loop-argument
invariant-loop-argument l = each_from number_in l.all.items (arguments_at l.store (drop l.argument-index l.args)) ≡ each_argument number_in (arguments_at l.store l.args)
