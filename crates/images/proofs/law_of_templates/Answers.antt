-- All are lemmas.
use Rattle.images.proofs.Holes.{template_filled}
use Rattle.images.proofs.Laws.{fill, stay}
use Rattle.images.proofs.law_of_templates.Goals as goal

pub returns-clause-fill : goal.returns-clause-fill
returns-clause-fill c = λ x c n e ty before following l a b. template_filled x c n e ty before following l a b

pub returns-clause-nodes : goal.returns-clause-nodes
returns-clause-nodes c = fill

pub returns-clause-typed : goal.returns-clause-typed
returns-clause-typed c = stay
