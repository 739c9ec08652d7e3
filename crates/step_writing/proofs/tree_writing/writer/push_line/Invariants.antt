use Rattle.std.proofs.Common.{◌≡◌, ◌++◌, take}
use Rattle.step_writing.specs.tree_writing.Referring.{words_of}
use Rattle.step_writing.specs.tree_writing.Text.{spaced}
use Rattle.step_writing.proofs.tree_writing.writer.push_line.Given as goal

abbrev pub invariant-loop-word : goal.invariant-loop-word
invariant-loop-word l = l.text.items ≡ l.initial.text.items ++ spaced (words_of (take l.word-index l.words))
