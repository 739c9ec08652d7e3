-- Both are lemmas.
use Rattle.images.proofs.TypedImages.{image_keeps_typing, image_at_types}
use Rattle.images.proofs.typing_laws.law_of_typed_images.Goals as goal

pub returns-clause-typing : goal.returns-clause-typing
returns-clause-typing c = λ v f r types e x. image_keeps_typing v f r types e x

pub returns-clause-types : goal.returns-clause-types
returns-clause-types c = λ v f r ys each node types e x. image_at_types v f r ys each node types e x
