use Rattle.std.proofs.Common.{◌≡◌, ◌≤◌, ◌-◌, ◌++◌, length, drop}
use Rattle.std.specs.Option.{option_map}
use Rattle.step_lines.specs.tree_lines.Words.{at_number, pairs, texts}
use Rattle.step_lines.proofs.tree_lines.known.pairs_at.Given as goal

abbrev pub invariant-loop-i : goal.invariant-loop-i
invariant-loop-i l = record {
  within : l.i ≤ length l.words;
  made : option_map (λ ys. l.all.items ++ ys) (pairs (at_number l.firsts) (at_number l.seconds) (texts (drop l.i l.words))) ≡ pairs (at_number l.firsts) (at_number l.seconds) (texts l.words);
}

abbrev pub decreases-loop-i : goal.decreases-loop-i
decreases-loop-i l = length l.words - l.i
