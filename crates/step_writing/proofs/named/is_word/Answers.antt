use Rattle.std.proofs.Common.{arith, rules}
use Rattle.kernel.specs.tasks.Words.{IsPlainByte}
use Rattle.step_writing.proofs.Naming.{all_more, all_done, all_none}
use Rattle.step_writing.proofs.named.is_word.Goals as goal

pub loop-byte-init : goal.loop-byte-init
loop-byte-init c = all_none IsPlainByte c.args.name.now

pub loop-byte-preserved : goal.loop-byte-preserved
loop-byte-preserved c = all_more IsPlainByte c.args.name.now c.loop-byte.byte-index 0 (omega (arith, c.loop-byte-test.true)) c.loop-byte.invariant (c.is_plain.ensures.0 c.if-not-is_plain.false)

pub returns : goal.returns
returns c = (λ t. all_done IsPlainByte c.args.name.now c.loop-byte.byte-index (omega (arith, c.loop-byte-test.false)) c.loop-byte.invariant, λ a. search rules)
