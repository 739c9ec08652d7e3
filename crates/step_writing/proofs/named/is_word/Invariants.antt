use Rattle.std.proofs.Common.{All, take}
use Rattle.kernel.specs.tasks.Words.{IsPlainByte}
use Rattle.step_writing.proofs.named.is_word.Given as goal

abbrev pub invariant-loop-byte : goal.invariant-loop-byte
invariant-loop-byte l = All IsPlainByte (take l.byte-index l.name)
