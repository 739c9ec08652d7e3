use Rattle.step_lines.specs.tree_lines.Words.{at_number}
use Rattle.step_lines.proofs.tree_lines.Lists.{each_word_more, each_word_missing}
use Rattle.step_lines.proofs.tree_lines.known.things_at.Goals as goal

pub loop-word-preserved : goal.loop-word-preserved
loop-word-preserved c = rw (c.in_ok-push-in-Some.ensures.items) (each_word_more (at_number c.args.things.now) c.args.words.now c.loop-word.word-index _ c.loop-word.all.items _ c.in-Some.found c.loop-word-test.true c.in-Some.ensures.number c.loop-word.invariant)

pub returns-in-None : goal.returns-in-None
returns-in-None c = each_word_missing (at_number c.args.things.now) c.args.words.now c.loop-word.word-index _ c.loop-word.all.items _ c.loop-word-test.true c.in-None.ensures.number c.loop-word.invariant
