use Rattle.std.proofs.Common.{◌≡◌, ℕ, ◌+◌, ◌-◌, length}
use Rattle.step_writing.specs.tree_writing.Parts.{is_marked}
use Rattle.step_writing.proofs.tree_writing.marking.widen.Given as goal

abbrev pub invariant-loop-marks : goal.invariant-loop-marks
invariant-loop-marks l = (k : ℕ) → is_marked l.marks.items k ≡ is_marked l.initial.marks.items k

abbrev pub decreases-loop-marks : goal.decreases-loop-marks
decreases-loop-marks l = l.place + 1 - length l.marks.items
