use Rattle.std.proofs.Common.{take}
use Rattle.step_lines.specs.rule_words.Arguments.{arguments_at}
use Rattle.step_writing.specs.Words.{PushesArguments}
use Rattle.step_writing.proofs.words.push_arguments.Given as goal

abbrev pub invariant-loop-argument : goal.invariant-loop-argument
invariant-loop-argument l = PushesArguments l.x l.initial.text.items l.text.items (arguments_at l.x.store.now (take l.argument-index l.arguments))
