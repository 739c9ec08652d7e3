use Rattle.std.proofs.Common.{◌≡◌, ◌++◌, drop, map, filter}
use Rattle.statuses.specs.explain.Places.{begins_character}
use Rattle.statuses.specs.explain.Message.{under_character}
use Rattle.statuses.proofs.explain.message.caret_line.Given as goal

abbrev pub invariant-loop-byte : goal.invariant-loop-byte
invariant-loop-byte l =
    l.text.items ++ map under_character (filter begins_character (drop l.byte-index l.before)) ≡ map under_character (filter begins_character l.before)
