use Rattle.std.proofs.Common.{◌≡◌, ◌<◌, drop}
use Rattle.word_tables.specs.integers.Integers.{number_from}
use Rattle.step_lines.proofs.tree_lines.words.digits.Given as goal

abbrev pub invariant-loop-c : goal.invariant-loop-c
invariant-loop-c l = (l.number < 18446744073709551616) × (number_from 18446744073709551616 l.number (drop l.c-index l.word) ≡ number_from 18446744073709551616 0 l.word)
