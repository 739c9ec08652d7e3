use Rattle.std.proofs.Common.{refl}
use Rattle.trees.proofs.PartLemmas.{Occurs_whole}
use Rattle.trees.proofs.binders.+occurs.Goals as goal

pub returns-then-same : goal.returns-then-same
returns-then-same t c = (λ _. Occurs_whole _ _ (c.same.ensures.trees.0 c.if-same.true), λ _. refl)
