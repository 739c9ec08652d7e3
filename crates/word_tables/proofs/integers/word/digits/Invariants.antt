use Rattle.std.proofs.Common.{◌≡◌, ◌<◌, drop}
use Rattle.word_tables.specs.integers.Integers.{number_from}
use Rattle.word_tables.proofs.integers.word.digits.Given as goal

abbrev pub invariant-loop-c : goal.invariant-loop-c
invariant-loop-c l = (l.number < l.bound) × (number_from l.bound l.number (drop l.c-index l.word) ≡ number_from l.bound 0 l.word)
