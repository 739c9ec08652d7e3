use Rattle.kernel.specs.trees.Node.{tree_at}
use Rattle.step_writing.proofs.tree_writing.Reading.{on_ok}
use Rattle.step_writing.proofs.Pushing.{reference_pushed}
use Rattle.step_writing.proofs.words.push_line_number.Goals as goal

pub returns : goal.returns
returns c =
    let x = c.args.x.now in
    on_ok c.push_number.result c.push_number.ensures
    (λ h. reference_pushed x c.args.text.now.items c.push_number.new.text.items c.line_number.result (tree_at x.store.now c.args.id) h c.line_number.ensures)
