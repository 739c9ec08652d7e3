use Rattle.std.proofs.Common.{length}
use Rattle.source_rows.proofs.sides.+are_matches.Given as goal

abbrev pub decreases-are_matches : goal.decreases-are_matches
decreases-are_matches l = length l.matches.now
