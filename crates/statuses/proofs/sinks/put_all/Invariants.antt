use Rattle.std.proofs.Common.{◌≡◌, ◌≤◌, ◌-◌, take, length}
use Rattle.outside.specs.State.{Gains}
use Rattle.statuses.proofs.sinks.put_all.Given as goal

abbrev pub invariant-loop-at : goal.invariant-loop-at
invariant-loop-at g l = record {
  within : l.at ≤ length l.text;
  gained : Gains (g.W.Sink.state l.initial.sink).written (take l.at l.text) (g.W.Sink.state l.sink).written;
  faults : (g.W.Sink.state l.sink).faults ≡ (g.W.Sink.state l.initial.sink).faults;
}

abbrev pub decreases-loop-at : goal.decreases-loop-at
decreases-loop-at g l = length l.text - l.at
