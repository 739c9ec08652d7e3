use Rattle.std.proofs.Common.{arith}
use Rattle.tokens_why.proofs.NumberLemmas.{next-digit}
use Rattle.tokens_why.proofs.literals.number.Goals as goal

pub returns-in_default : goal.returns-in_default
returns-in_default c = λ small.
    let n = c.loop-byte.number in
    let more = next-digit c.args.radix n c.loop-byte.byte-index c.args.digits.now (omega arith) (omega arith) c.if-byte-ne95.true in
    c.in_default.ensures (omega (arith, more, small, c.loop-byte.invariant.same, c.digit_value.ensures))
