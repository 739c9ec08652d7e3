use Rattle.std.proofs.Common.{◌≡◌, ◌++◌, drop, All}
use Rattle.std.specs.Option.{option_map}
use Rattle.tasks.specs.Meaning.{task_at}
use Rattle.step_lines.specs.rule_words.Arguments.{arguments_at, ArgumentHeld}
use Rattle.step_lines.specs.tree_lines.Words.{texts}
use Rattle.step_lines.specs.tree_lines.Made.{earlier_at}
use Rattle.step_lines.specs.Steps.{arguments}
use Rattle.step_lines.proofs.arguments.word_arguments.Given as goal

abbrev pub invariant-loop-word : goal.invariant-loop-word
invariant-loop-word l = record {
  trees : option_map (λ ys. arguments_at l.store l.all.items ++ ys) (arguments (task_at l.store l.x.task.now) l.x.table.now (earlier_at l.store l.x) l.left l.again (texts (drop l.word-index l.words)))
      ≡ arguments (task_at l.store l.x.task.now) l.x.table.now (earlier_at l.store l.x) l.kinds l.again (texts l.words);
  held : All (ArgumentHeld l.store) l.all.items;
}
