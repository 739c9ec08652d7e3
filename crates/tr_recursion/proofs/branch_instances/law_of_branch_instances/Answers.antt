use Rattle.declarations.specs.spelled_groups.Kept.{spelling_props}
use Rattle.tr_inline.specs.inlining.branch_equations.Branches.{recursion_facts}
use Rattle.tr_inline.proofs.inlining.branch_equations.AtTerms.{branches_at_terms}
use Rattle.tr_recursion.proofs.branch_instances.Instances.{says_chosen}
use Rattle.tr_recursion.proofs.branch_instances.Origins.{old_fact_of}
use Rattle.tr_recursion.proofs.branch_instances.Projections.{projection_role}
use Rattle.tr_recursion.proofs.branch_instances.law_of_branch_instances.Goals as goal

pub returns-clause-instances : goal.returns-clause-instances
returns-clause-instances c = λ v m a i bs type matched within plain different place b there ys types closed many ws k l. says_chosen branches_at_terms v m a i bs type matched within plain different place b there ys types closed many ws k l

pub returns-clause-origins : goal.returns-clause-origins
returns-clause-origins c = λ t valid k p old e q. old_fact_of t valid (spelling_props recursion_facts) k p old e q

pub returns-clause-projections : goal.returns-clause-projections
returns-clause-projections c = λ t valid k p j con e there. projection_role k p j con there t valid e
