use Rattle.std.proofs.Common.{length}
use Rattle.name_resolution.proofs.variables.variables.+has_width.Given as goal

abbrev pub decreases-has_width : goal.decreases-has_width
decreases-has_width l = length l.widths.now
