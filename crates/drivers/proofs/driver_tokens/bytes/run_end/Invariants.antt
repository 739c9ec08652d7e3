use Rattle.std.proofs.Common.{◌≡◌, ◌≤◌, ◌+◌, ◌-◌, length, drop}
use Rattle.std.specs.List.{prefix_len}
use Rattle.drivers.specs.driver_tokens.Tokens.{is_in_run}
use Rattle.drivers.proofs.driver_tokens.bytes.run_end.Given as goal

abbrev pub invariant-loop-at : goal.invariant-loop-at
invariant-loop-at l = record {
  low : l.fn.from ≤ l.at;
  high : l.at ≤ length l.text;
  same : l.fn.from + prefix_len (is_in_run l.run) (drop l.fn.from l.text) ≡ l.at + prefix_len (is_in_run l.run) (drop l.at l.text);
}

abbrev pub decreases-loop-at : goal.decreases-loop-at
decreases-loop-at l = length l.text - l.at
