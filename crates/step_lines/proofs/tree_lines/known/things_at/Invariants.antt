use Rattle.std.proofs.Common.{◌≡◌, ◌++◌, drop}
use Rattle.std.specs.Option.{option_map}
use Rattle.step_lines.specs.tree_lines.Words.{at_number, each, texts}
use Rattle.step_lines.proofs.tree_lines.known.things_at.Given as goal

abbrev pub invariant-loop-word : goal.invariant-loop-word
invariant-loop-word l = option_map (λ ys. l.all.items ++ ys) (each (at_number l.things) (texts (drop l.word-index l.words))) ≡ each (at_number l.things) (texts l.words)
