use Rattle.std.proofs.Common.{◌≡◌, ◌≤◌, length, drop, slice_range}
use Rattle.drivers.specs.driver_tokens.Machine.{runs, cut}
use Rattle.drivers.specs.driver_tokens.File.{tokens_of_lines}
use Rattle.drivers.proofs.driver_tokens.Onto.{onto, terminal}
use Rattle.drivers.proofs.driver_tokens.file.cut.Given as goal

abbrev pub invariant-loop-i : goal.invariant-loop-i
invariant-loop-i l = record {
  ordered : l.first ≤ l.i;
  within : l.i ≤ length l.tokens;
  same : cut terminal l.tokens ≡ onto (tokens_of_lines l.tokens l.lines.items) (slice_range l.tokens l.first l.i) (runs terminal l.state (drop l.i l.tokens));
}
