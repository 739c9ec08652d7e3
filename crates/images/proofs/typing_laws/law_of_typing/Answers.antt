-- All are lemmas.
use Rattle.images.proofs.typing_laws.Sorted.{typed_has, small_typed}
use Rattle.images.proofs.typing_laws.TypeInstances.{has_types}
use Rattle.images.proofs.typing_laws.Changes.{many_has}
use Rattle.images.proofs.typing_laws.law_of_typing.Goals as goal

pub returns-clause-typed : goal.returns-clause-typed
returns-clause-typed c = λ v types e x. typed_has v types e x

pub returns-clause-small : goal.returns-clause-small
returns-clause-small c = λ v e x l. small_typed v e x l

pub returns-clause-types : goal.returns-clause-types
returns-clause-types c = λ v sound tys put types e x. has_types v tys put sound types e x

pub returns-clause-terms : goal.returns-clause-terms
returns-clause-terms c = λ v types tys ts o b x. many_has v types tys ts o b x
