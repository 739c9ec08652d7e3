use Rattle.step_writing.proofs.Pushing.{word_text}
use Rattle.step_writing.proofs.words.push_word.Goals as goal

pub returns : goal.returns
returns c = word_text c.args.text.now.items c.push.new.self.items c.extend_from_slice.new.self.items c.args.word.now c.in_ok-push.ensures.items c.in_ok-extend_from_slice.ensures.items
