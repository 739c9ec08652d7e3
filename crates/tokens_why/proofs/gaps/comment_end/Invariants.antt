use Rattle.tokens_why.proofs.Common.{◌≡◌, ◌≤◌, ◌-◌, length, drop, comment, at_from}
use Rattle.tokens_why.proofs.gaps.comment_end.Given as goal

abbrev pub invariant-loop-at : goal.invariant-loop-at
invariant-loop-at l = record {
  low : l.fn.from ≤ l.at;
  high : l.at ≤ length l.text;
  deep : l.depth ≤ l.at;
  same : at_from l.fn.from (comment (drop l.fn.from l.text) 1 2) ≡ at_from l.at (comment (drop l.at l.text) l.depth 0);
}

abbrev pub decreases-loop-at : goal.decreases-loop-at
decreases-loop-at l = length l.text - l.at
