use Rattle.std.proofs.Common.{◌≡◌, ◌<◌, drop}
use Rattle.statuses.specs.explain.Words.{number_after_digits}
use Rattle.statuses.proofs.explain.words.digits.Given as goal

abbrev pub invariant-loop-c : goal.invariant-loop-c
invariant-loop-c l = (l.number < 18446744073709551616) × (number_after_digits l.number (drop l.c-index l.word) ≡ number_after_digits 0 l.word)
