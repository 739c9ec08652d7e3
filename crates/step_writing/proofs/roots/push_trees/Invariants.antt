use Rattle.std.proofs.Common.{◌≡◌, ◌++◌, All, take}
use Rattle.kernel.specs.trees.Node.{Holds}
use Rattle.kernel.specs.tasks.Meaning.{trees_at}
use Rattle.step_lines.specs.rule_words.Arguments.{arguments_at}
use Rattle.step_writing.specs.Named.{trees_in}
use Rattle.step_writing.proofs.roots.push_trees.Given as goal

abbrev pub invariant-loop-argument : goal.invariant-loop-argument
invariant-loop-argument l = record {
  trees : trees_at l.store l.roots.items ≡ trees_at l.store l.initial.roots.items ++ trees_in (arguments_at l.store (take l.argument-index l.arguments));
  held : All (Holds l.store) l.roots.items;
}
