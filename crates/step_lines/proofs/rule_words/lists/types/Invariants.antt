use Rattle.std.proofs.Common.{◌≡◌, All, drop}
use Rattle.trees.specs.Node.{Holds}
use Rattle.tasks.specs.Meaning.{trees_at}
use Rattle.step_lines.specs.rule_words.Arguments.{arguments_at, type_in}
use Rattle.step_lines.specs.rule_words.Forms.{each_argument, each_from}
use Rattle.step_lines.proofs.rule_words.lists.types.Given as goal

abbrev pub invariant-loop-argument : goal.invariant-loop-argument
invariant-loop-argument l =
    (each_from type_in (trees_at l.store l.all.items) (arguments_at l.store (drop l.argument-index l.args)) ≡ each_argument type_in (arguments_at l.store l.args))
    × All (Holds l.store) l.all.items
