use Rattle.std.proofs.Common.{◌<◌, length, arith}
use Rattle.step_writing.proofs.Pushing.{numbers_none, numbers_more}
use Rattle.step_writing.proofs.words.push_numbers.Goals as goal

pub loop-number-init : goal.loop-number-init
loop-number-init c = numbers_none c.args.text.now.items

pub loop-number-preserved : goal.loop-number-preserved
loop-number-preserved c =
    let lt : c.loop-number.number-index < length c.args.numbers.now = omega (arith, c.loop-number-test.true) in
    numbers_more c.args.text.now.items c.loop-number.text.items c.push_number.new.text.items c.args.numbers.now c.loop-number.number-index lt c.in_ok-push_number.ensures c.loop-number.invariant
