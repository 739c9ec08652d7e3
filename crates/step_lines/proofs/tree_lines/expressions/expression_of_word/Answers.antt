use Rattle.std.proofs.Common.{Option, IfOk, subst}
use Rattle.trees.specs.Tree.{Tree}
use Rattle.tasks.specs.Meaning.{task_at}
use Rattle.step_lines.specs.tree_lines.Words.{texts}
use Rattle.step_lines.specs.tree_lines.Made.{IsTreeMade, earlier_at}
use Rattle.step_lines.proofs.tree_lines.Others.{expression_other}
use Rattle.step_lines.proofs.tree_lines.expressions.expression_of_word.Goals as goal

pub returns-in_default-clause-made : goal.returns-in_default-clause-made
returns-in_default-clause-made c =
    let s = c.args.store.now in
    let x = c.args.x.now in
    let r = c.plain_expression in
    subst (λ (m : Option Tree). IfOk r.result (IsTreeMade r.new.store m)) (expression_other (task_at s x.task.now) x.table.now (earlier_at s x) c.args.word c.in_default.not-Sym c.in_default.not-Match (texts c.args.words.now)) r.ensures.made
