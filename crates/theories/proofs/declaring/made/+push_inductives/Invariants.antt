use Rattle.std.proofs.Common.{length}
use Rattle.theories.proofs.declaring.made.+push_inductives.Given as goal

abbrev pub decreases-push_inductives : goal.decreases-push_inductives
decreases-push_inductives l = length l.predicates.now
