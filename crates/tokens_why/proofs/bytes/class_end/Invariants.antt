use Rattle.tokens_why.proofs.Common.{◌≡◌, ◌≤◌, ◌+◌, ◌-◌, length, drop, prefix_len}
use Rattle.tokens_why.specs.Classes.{is_in_class}
use Rattle.tokens_why.proofs.bytes.class_end.Given as goal

abbrev pub invariant-loop-at : goal.invariant-loop-at
invariant-loop-at l = record {
  high : l.at ≤ length l.text;
  same : l.fn.from + prefix_len (is_in_class l.class) (drop l.fn.from l.text) ≡ l.at + prefix_len (is_in_class l.class) (drop l.at l.text);
}

abbrev pub decreases-loop-at : goal.decreases-loop-at
decreases-loop-at l = length l.text - l.at
