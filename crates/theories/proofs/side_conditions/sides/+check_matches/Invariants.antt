use Rattle.std.proofs.Common.{length}
use Rattle.theories.proofs.side_conditions.sides.+check_matches.Given as goal

abbrev pub decreases-check_matches : goal.decreases-check_matches
decreases-check_matches l = length l.matches.now
