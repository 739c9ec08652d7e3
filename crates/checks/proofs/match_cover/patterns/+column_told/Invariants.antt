use Rattle.std.proofs.Common.{length}
use Rattle.checks.proofs.match_cover.patterns.+column_told.Given as goal

abbrev pub decreases-column_told : goal.decreases-column_told
decreases-column_told l = length l.rows.now
