use Rattle.std.proofs.Common.{List, subst, ap}
use Rattle.tasks.specs.trees.Node.{tree_at}
use Rattle.tasks.specs.Typing.{members}
use Rattle.step_lines.specs.tree_lines.Words.{LineWord}
use Rattle.step_writing.specs.tree_writing.Referring.{words_of}
use Rattle.step_writing.specs.tree_writing.Naming.{PushesSymbol}
use Rattle.step_writing.proofs.tree_writing.Reading.{type_back}
use Rattle.step_writing.proofs.tree_writing.naming.type_words.Goals as goal

pub returns : goal.returns
returns c t r are =
    let s = c.args.x.now.store.now in
    let p = c.type_parts-symbol.result in
    let types = members (tree_at s p.1) in
    type_back s t c.args.x.now.table.now c.args.x.now.lines.now r p.0 types (tree_at s c.args.ty) (words_of c.push_symbol.new.words.items) are
    (subst (λ (old : List LineWord). PushesSymbol s c.args.x.now.table.now c.args.x.now.lines.now p.0 types old (words_of c.push_symbol.new.words.items)) (ap words_of c.new-words.ensures.items) c.in_ok-push_symbol.ensures)
    c.type_parts-symbol.ensures.same
