use Rattle.std.proofs.Common.{length}
use Rattle.agreement.proofs.questions.+step_for.Given as goal

abbrev pub decreases-step_for : goal.decreases-step_for
decreases-step_for l = length l.atoms.now
