-- Both are lemmas.
use Rattle.inlining.proofs.Equations.{function_there, predicate_there}
use Rattle.inlining.proofs.law_of_uses.Goals as goal

pub returns-clause-functions : goal.returns-clause-functions
returns-clause-functions c = λ zs us args n p q closed k body ty l m. function_there zs us args n p q closed k body ty l m

pub returns-clause-predicates : goal.returns-clause-predicates
returns-clause-predicates c = λ zs us args n p q closed k body l. predicate_there zs us args n p q closed k body l
