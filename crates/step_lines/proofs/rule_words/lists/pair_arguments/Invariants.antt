use Rattle.std.proofs.Common.{◌≡◌, ◌++◌, drop}
use Rattle.step_lines.specs.rule_words.Written.{arguments_of_pairs}
use Rattle.step_lines.proofs.rule_words.lists.pair_arguments.Given as goal

abbrev pub invariant-loop-i : goal.invariant-loop-i
invariant-loop-i l = l.all.items ++ arguments_of_pairs (drop l.i-index l.pairs) ≡ arguments_of_pairs l.pairs
