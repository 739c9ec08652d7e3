use Rattle.std.proofs.Common.{sym, subst}
use Rattle.tasks.specs.trees.Node.{tree_at}
use Rattle.step_writing.specs.declared.tree_writing.writer.LineKind.{LineKind}
use Rattle.step_writing.specs.tree_writing.Referring.{words_of}
use Rattle.step_writing.specs.tree_writing.Whole.{IsOfKind, LineBack}
use Rattle.step_writing.proofs.tree_writing.Reading.{if_ok}
use Rattle.step_writing.proofs.tree_writing.Sorting.{is_type, type_sort}
use Rattle.step_writing.proofs.tree_writing.writer.tree_words.Goals as goal

pub type_words-requires-clause-spelt : goal.type_words-requires-clause-spelt
type_words-requires-clause-spelt c =
    let e = tree_at c.args.x.now.store.now c.args.id in
    is_type c.args.x.now.table.now e (c.laws.ensures.sorted c.args.id c.requires.held) (type_sort e (subst (λ (k : LineKind). IsOfKind k e) c.in-Type.is c.requires.kind)) c.requires.named

pub returns-in-Type : goal.returns-in-Type
returns-in-Type c =
    let x = c.args.x.now in
    let e = tree_at x.store.now c.args.id in
    if_ok c.type_words.result c.type_words.ensures
    (λ v h. subst (λ (k : LineKind). LineBack x.store.now x.table.now x.lines.now k e (words_of v.items)) (sym c.in-Type.is) (λ t r u are. h t r are))
