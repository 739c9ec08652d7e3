-- All are lemmas.
use Rattle.images.proofs.PatternLaws.{constructor_results, type_results}
use Rattle.images.proofs.law_of_constructors.Goals as goal

pub returns-clause-results : goal.returns-clause-results
returns-clause-results c = constructor_results

pub returns-clause-of_types : goal.returns-clause-of_types
returns-clause-of_types c = type_results
