-- All are lemmas.
use Rattle.tr_match.specs.match_forms.lemmas.Rule.{match_typed_rule}
use Rattle.tr_match.specs.match_forms.lemmas.AtTypes.{match_at_types}
use Rattle.tr_match.proofs.match_forms.AtTerms.{match_at_terms}
use Rattle.tr_match.proofs.match_forms.law_of_match_forms.Goals as goal

pub returns-clause-typing : goal.returns-clause-typing
returns-clause-typing c = λ t valid. match_typed_rule t valid

pub returns-clause-types : goal.returns-clause-types
returns-clause-types c = λ t valid ys each types e x. match_at_types t valid ys each types e x

pub returns-clause-terms : goal.returns-clause-terms
returns-clause-terms c = λ t valid types env n s branches l k. match_at_terms t valid types env n s branches l k
