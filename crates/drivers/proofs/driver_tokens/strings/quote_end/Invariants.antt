use Rattle.std.proofs.Common.{◌≡◌, ◌≤◌, ◌-◌, false, length, drop}
use Rattle.tokens_why.specs.Gap.{at_from}
use Rattle.drivers.specs.driver_tokens.Strings.{quoted}
use Rattle.drivers.proofs.driver_tokens.strings.quote_end.Given as goal

abbrev pub invariant-loop-at : goal.invariant-loop-at
invariant-loop-at l = record {
  low : l.fn.from ≤ l.at;
  high : l.at ≤ length l.text;
  same : at_from l.fn.from (quoted false (drop l.fn.from l.text)) ≡ at_from l.at (quoted l.escaped (drop l.at l.text));
}

abbrev pub decreases-loop-at : goal.decreases-loop-at
decreases-loop-at l = length l.text - l.at
