use Rattle.std.proofs.Common.{Option, IfOk, subst}
use Rattle.trees.specs.Tree.{Tree}
use Rattle.tasks.specs.Meaning.{task_at}
use Rattle.step_lines.specs.tree_lines.Words.{texts}
use Rattle.step_lines.specs.tree_lines.Made.{IsTreeMade, earlier_at}
use Rattle.step_lines.proofs.tree_lines.Growing.{types_held}
use Rattle.step_lines.proofs.tree_lines.Others.{pattern_other}
use Rattle.step_lines.proofs.tree_lines.patterns.pattern_of_word.Goals as goal

pub pattern_of_one-requires-in_default : goal.pattern_of_one-requires-in_default
pattern_of_one-requires-in_default c = types_held c.args.store.now c.args.x.now.types.now c.requires.types

pub returns-in_default-clause-made : goal.returns-in_default-clause-made
returns-in_default-clause-made c =
    let s = c.args.store.now in
    let x = c.args.x.now in
    let r = c.pattern_of_one-in_default in
    subst (λ (m : Option Tree). IfOk r.result (IsTreeMade r.new.store m)) (pattern_other (task_at s x.task.now) x.table.now (earlier_at s x) c.args.word c.in_default.not-Con c.in_default.not-As (texts c.args.words.now)) r.ensures.made
