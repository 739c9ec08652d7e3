use Rattle.tasks.specs.trees.Node.{tree_at}
use Rattle.step_writing.specs.tree_writing.Referring.{words_of}
use Rattle.step_writing.proofs.tree_writing.PlainBack.{are_variable_words}
use Rattle.step_writing.proofs.tree_writing.Reading.{if_ok}
use Rattle.step_writing.proofs.tree_writing.plain.variable_words.Goals as goal

pub returns : goal.returns
returns c =
    let s = c.args.x.now.store.now in
    if_ok c.line_words.result c.line_words.ensures
    (λ v h. are_variable_words s c.args.x.now.lines.now c.args.word.now c.args.n (tree_at s c.args.a) c.line_number-first.result (words_of v.items) c.line_number-first.ensures h)
