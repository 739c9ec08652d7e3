-- All are lemmas.
use Rattle.images.proofs.Patterns.{test_at, bind_at}
use Rattle.images.proofs.InstanceLaws.{tests_at_types, terms_at_types}
use Rattle.images.proofs.law_of_patterns.Goals as goal

pub returns-clause-tests : goal.returns-clause-tests
returns-clause-tests c = λ t env p s w. test_at t env p s w

pub returns-clause-terms : goal.returns-clause-terms
returns-clause-terms c = λ t env p s w. bind_at t env p s w

pub returns-clause-tests_at_types : goal.returns-clause-tests_at_types
returns-clause-tests_at_types c = tests_at_types

pub returns-clause-terms_at_types : goal.returns-clause-terms_at_types
returns-clause-terms_at_types c = terms_at_types
