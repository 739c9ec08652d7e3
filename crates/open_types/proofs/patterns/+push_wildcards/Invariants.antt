use Rattle.std.proofs.Common.{length}
use Rattle.open_types.proofs.patterns.+push_wildcards.Given as goal

abbrev pub decreases-push_wildcards : goal.decreases-push_wildcards
decreases-push_wildcards l = length l.types.now
