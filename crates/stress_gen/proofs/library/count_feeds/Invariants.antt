use Rattle.std.proofs.Common.{◌≡◌, ◌≤◌, take}
use Rattle.stress_gen.specs.Files.{feeds}
use Rattle.stress_gen.proofs.library.count_feeds.Given as goal

abbrev pub invariant-loop-byte : goal.invariant-loop-byte
invariant-loop-byte l = (l.count ≡ feeds (take l.byte-index l.bytes)) × (l.count ≤ l.byte-index)
