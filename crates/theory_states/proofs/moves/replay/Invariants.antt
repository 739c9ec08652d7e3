use Rattle.std.proofs.Common.{◌≡◌, drop}
use Rattle.theory_states.specs.Moves.{replayed}
use Rattle.theory_states.proofs.moves.replay.Given as goal

abbrev pub invariant-loop-step : goal.invariant-loop-step
invariant-loop-step l = replayed (drop l.step-index l.moves) l.scope ≡ replayed l.moves l.initial.scope
