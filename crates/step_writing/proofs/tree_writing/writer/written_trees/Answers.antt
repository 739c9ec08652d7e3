use Rattle.std.proofs.Common.{◌≡◌, Option, length, sym, subst}
use Rattle.std.specs.Prelude.{IfSome}
use Rattle.step_writing.specs.declared.tree_writing.writer.Writing.{Writing}
use Rattle.step_writing.specs.declared.tree_writing.writer.Trees.{Trees}
use Rattle.step_writing.specs.tree_writing.Parts.{AreMarked}
use Rattle.step_writing.specs.tree_writing.Whole.{IsWritingOf}
use Rattle.step_writing.proofs.tree_writing.Whole.{lines_there}
use Rattle.step_writing.proofs.tree_writing.writer.written_trees.Goals as goal

pub returns-in-Some-clause-lines : goal.returns-in-Some-clause-lines
returns-in-Some-clause-lines c =
    let x : Trees = record { store = c.args.store; table = c.args.table; names = c.args.names; roots = c.args.roots; marks = c.deref.result } in
    let all = subst (λ (o : Option Writing). IfSome o (λ (w : Writing). length w.numbers.items ≡ length x.marks.now)) c.in-Some.is c.in_ok-w.ensures.all in
    let some = subst (λ (o : Option Writing). IfSome o (IsWritingOf x)) c.in-Some.is c.in_ok-w.ensures.some in
    let marks = subst (AreMarked c.args.store.now c.args.roots.now) (sym c.deref.ensures.value) c.in_ok-marks.ensures in
    lines_there x c.in-Some.w (record { names = c.requires.names; marks = marks }) all some
