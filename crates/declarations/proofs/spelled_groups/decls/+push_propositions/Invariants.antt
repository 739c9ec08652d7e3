use Rattle.std.proofs.Common.{length}
use Rattle.declarations.proofs.spelled_groups.decls.+push_propositions.Given as goal

abbrev pub decreases-push_propositions : goal.decreases-push_propositions
decreases-push_propositions l = length l.said.now
