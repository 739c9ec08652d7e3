use Rattle.std.proofs.Common.{length}
use Rattle.name_resolution.proofs.names.+has_alternative.Given as goal

abbrev pub decreases-has_alternative : goal.decreases-has_alternative
decreases-has_alternative l = length l.branches.now
