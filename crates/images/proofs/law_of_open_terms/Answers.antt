-- All are lemmas.
use Rattle.images.proofs.Laws.{one, many}
use Rattle.images.proofs.law_of_open_terms.Goals as goal

pub returns-clause-one : goal.returns-clause-one
returns-clause-one c = one

pub returns-clause-many : goal.returns-clause-many
returns-clause-many c = many
