use Rattle.tasks.specs.trees.Node.{tree_at}
use Rattle.step_writing.specs.tree_writing.Referring.{words_of}
use Rattle.step_writing.proofs.tree_writing.PlainBack.{are_three_words}
use Rattle.step_writing.proofs.tree_writing.Reading.{if_ok}
use Rattle.step_writing.proofs.tree_writing.plain.three_words.Goals as goal

pub returns : goal.returns
returns c =
    let s = c.args.x.now.store.now in
    if_ok c.line_words.result c.line_words.ensures
    (λ v h. are_three_words s c.args.x.now.lines.now c.args.word.now (tree_at s c.args.a) (tree_at s c.args.b) (tree_at s c.args.c) c.line_number-first.result c.line_number-second.result c.line_number-third.result (words_of v.items) c.line_number-first.ensures c.line_number-second.ensures c.line_number-third.ensures h)
