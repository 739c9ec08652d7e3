use Rattle.std.proofs.Common.{length}
use Rattle.open_types.proofs.patterns.+join_parts.Given as goal

abbrev pub decreases-join_parts : goal.decreases-join_parts
decreases-join_parts l = length l.parts.now
