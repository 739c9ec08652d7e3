use Rattle.std.proofs.Common.{length}
use Rattle.elab_groups.proofs.parts.solution.+put_matches.Given as goal

abbrev pub decreases-put_matches : goal.decreases-put_matches
decreases-put_matches l = length l.matches.now
