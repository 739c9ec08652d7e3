use Rattle.step_writing.specs.Written.{AddsFirst}
use Rattle.step_writing.proofs.writer.push_steps.Given as goal

abbrev pub invariant-loop-step : goal.invariant-loop-step
invariant-loop-step l = AddsFirst l.x l.steps l.step-index l.initial.text.items l.text.items
