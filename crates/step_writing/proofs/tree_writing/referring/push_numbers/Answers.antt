use Rattle.std.proofs.Common.{get_or, length, ◌<◌, refl, arith}
use Rattle.step_writing.specs.tree_writing.Referring.{words_of}
use Rattle.step_writing.proofs.tree_writing.Partly.{pushes_more}
use Rattle.step_writing.proofs.tree_writing.referring.push_numbers.Goals as goal

pub loop-number-preserved : goal.loop-number-preserved
loop-number-preserved c =
    let lt : c.loop-number.number-index < length c.args.numbers.now = omega (arith, c.loop-number-test.true) in
    record {
      pushed = pushes_more (words_of c.args.words.now.items) c.loop-number.words.items c.push.new.self.items c.in_ok-word.word c.args.numbers.now c.loop-number.number-index (get_or c.args.numbers.now c.loop-number.number-index 0) 0 lt refl c.in_ok-word.ensures c.in_ok-push.ensures.items c.loop-number.invariant.pushed;
    }
