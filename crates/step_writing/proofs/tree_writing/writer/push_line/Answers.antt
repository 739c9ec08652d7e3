use Rattle.std.proofs.Common.{arith}
use Rattle.step_writing.proofs.tree_writing.Whole.{line_more}
use Rattle.step_writing.proofs.tree_writing.writer.push_line.Goals as goal

pub loop-word-preserved : goal.loop-word-preserved
loop-word-preserved c =
    line_more c.args.words.now c.loop-word.word-index c.word-item.result c.push.new.self.items c.loop-word.text.items c.push-in-loop-word.new.self.items c.extend_from_slice.new.self.items c.deref.result.now (omega (arith, c.loop-word-test.true)) c.word-item.is
    c.loop-word.invariant c.in_ok-push-2.ensures.items c.deref.ensures.value c.in_ok-extend_from_slice.ensures.items
