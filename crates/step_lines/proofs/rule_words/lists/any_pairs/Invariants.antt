use Rattle.std.proofs.Common.{◌≡◌, drop}
use Rattle.step_lines.specs.rule_words.Arguments.{arguments_at}
use Rattle.step_lines.specs.rule_words.Forms.{argument_pairs, pairs_from}
use Rattle.step_lines.proofs.rule_words.lists.any_pairs.Given as goal

abbrev pub invariant-loop-argument : goal.invariant-loop-argument
invariant-loop-argument l = pairs_from l.all.items l.place (arguments_at l.store (drop l.argument-index l.args)) ≡ argument_pairs (arguments_at l.store l.args)
