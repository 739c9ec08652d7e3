use Rattle.tokens_why.proofs.Common.{◌≡◌, ◌≤◌, ◌-◌, length, next}
use Rattle.tokens_why.proofs.gaps.skip.Given as goal

abbrev pub invariant-loop-at : goal.invariant-loop-at
invariant-loop-at l = record {
  low : l.fn.from ≤ l.at;
  high : l.at ≤ length l.text;
  same : next l.text l.fn.from ≡ next l.text l.at;
}

abbrev pub decreases-loop-at : goal.decreases-loop-at
decreases-loop-at l = length l.text - l.at
