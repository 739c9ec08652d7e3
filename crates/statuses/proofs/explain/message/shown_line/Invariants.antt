use Rattle.std.proofs.Common.{◌≡◌, ◌++◌, drop, map}
use Rattle.statuses.specs.explain.Message.{shown}
use Rattle.statuses.proofs.explain.message.shown_line.Given as goal

abbrev pub invariant-loop-byte : goal.invariant-loop-byte
invariant-loop-byte l = l.text.items ++ map shown (drop l.byte-index l.line) ≡ map shown l.line
