-- All are lemmas.
use Rattle.agreement.proofs.BinderRanks.{binders_lower}
use Rattle.agreement.proofs.CaseTrees.{test_ranked, inner_ranked, rest_ranked}
use Rattle.agreement.proofs.law_of_ranks.Goals as goal

pub returns-clause-bodies : goal.returns-clause-bodies
returns-clause-bodies c = binders_lower

pub returns-clause-branches : goal.returns-clause-branches
returns-clause-branches c = λ t v s p a r g. (test_ranked t v s p a r g, (inner_ranked t v s p a r g, rest_ranked t v s p a r g))
