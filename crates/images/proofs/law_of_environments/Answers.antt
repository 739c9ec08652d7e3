-- All are lemmas.
use Rattle.images.proofs.Environments.{at_open}
use Rattle.images.proofs.Laws.{bodies}
use Rattle.images.proofs.law_of_environments.Goals as goal

pub returns-clause-closed : goal.returns-clause-closed
returns-clause-closed c = λ t types env n e. at_open t types env n e

pub returns-clause-bodies : goal.returns-clause-bodies
returns-clause-bodies c = bodies
