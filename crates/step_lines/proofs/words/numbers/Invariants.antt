use Rattle.std.proofs.Common.{◌≡◌, ◌++◌, drop}
use Rattle.std.specs.Option.{option_map}
use Rattle.step_lines.specs.tree_lines.Words.{number, each, texts}
use Rattle.step_lines.proofs.words.numbers.Given as goal

abbrev pub invariant-loop-word : goal.invariant-loop-word
invariant-loop-word l = option_map (λ ys. l.all.items ++ ys) (each number (texts (drop l.word-index l.words))) ≡ each number (texts l.words)
