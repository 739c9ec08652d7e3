use Rattle.std.proofs.Common.{◌<◌, length, arith}
use Rattle.kernel.specs.tasks.Meaning.{trees_at}
use Rattle.step_lines.specs.declared.rule_words.argument.Argument.TheVariants as made
use Rattle.step_writing.proofs.Rooting.{arguments_more}
use Rattle.step_writing.proofs.roots.push_trees.Goals as goal

pub loop-argument-preserved : goal.loop-argument-preserved
loop-argument-preserved c =
    let s = c.args.store.now in
    let lt : c.loop-argument.argument-index < length c.args.arguments.now = omega (arith, c.loop-argument-test.true) in
    record {
      trees = arguments_more s c.args.arguments.now c.loop-argument.argument-index (made.Number 0) (trees_at s c.args.roots.now.items) (trees_at s c.loop-argument.roots.items) (trees_at s c.push_tree.new.roots.items) lt c.loop-argument.invariant.trees c.in_ok-push_tree.ensures.trees;
      held = c.in_ok-push_tree.ensures.held;
    }
