use Rattle.std.proofs.Common.{◌≡◌, drop, map, string_bytes}
use Rattle.statuses.specs.Words.{all_plain}
use Rattle.statuses.proofs.words.all_plain.Given as goal

abbrev pub invariant-loop-word : goal.invariant-loop-word
invariant-loop-word l = all_plain (map string_bytes (drop l.word-index l.words)) ≡ all_plain (map string_bytes l.words)
