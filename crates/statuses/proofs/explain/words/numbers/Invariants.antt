use Rattle.std.proofs.Common.{◌≡◌, [], drop, map, string_bytes}
use Rattle.statuses.specs.explain.Words.{numbers_from}
use Rattle.statuses.proofs.explain.words.numbers.Given as goal

abbrev pub invariant-loop-word : goal.invariant-loop-word
invariant-loop-word l =
    numbers_from l.all.items (map string_bytes (drop l.word-index l.words)) ≡ numbers_from [] (map string_bytes l.words)
