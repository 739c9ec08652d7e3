use Rattle.std.proofs.Common.{length}
use Rattle.elab_groups.proofs.equations.+push_definitions.Given as goal

abbrev pub decreases-push_definitions : goal.decreases-push_definitions
decreases-push_definitions l = length l.signed.now
