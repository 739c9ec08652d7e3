use Rattle.std.proofs.Common.{◌≤◌, length}
use Rattle.tasks.proofs.Marking.{AreMakersFrom}
use Rattle.tasks.proofs.lookup.makers_of.Given as goal

abbrev pub invariant-loop-place : goal.invariant-loop-place
invariant-loop-place l = (l.place ≤ length l.decls) × AreMakersFrom l.decls l.place l.makers.items

abbrev pub decreases-loop-place : goal.decreases-loop-place
decreases-loop-place l = l.place
