use Rattle.std.proofs.Common.{◌<◌, length, arith}
use Rattle.step_lines.specs.declared.rule_words.argument.Argument.TheVariants as made
use Rattle.step_writing.proofs.Pushing.{arguments_none, arguments_more}
use Rattle.step_writing.proofs.words.push_arguments.Goals as goal

pub loop-argument-init : goal.loop-argument-init
loop-argument-init c = arguments_none c.args.x.now c.args.text.now.items

pub loop-argument-preserved : goal.loop-argument-preserved
loop-argument-preserved c =
    let lt : c.loop-argument.argument-index < length c.args.arguments.now = omega (arith, c.loop-argument-test.true) in
    arguments_more c.args.x.now c.args.text.now.items c.loop-argument.text.items c.push_argument.new.text.items c.args.arguments.now c.loop-argument.argument-index (made.Number 0) lt c.in_ok-push_argument.ensures c.loop-argument.invariant
