-- All are lemmas.
use Rattle.images.proofs.Images.{image_keeps, others_type}
use Rattle.images.proofs.law_of_images.Goals as goal

pub returns-clause-keeps : goal.returns-clause-keeps
returns-clause-keeps c = λ v f r types e x w. image_keeps v f r types e x w

pub returns-clause-types : goal.returns-clause-types
returns-clause-types c = λ f o e w k. others_type f o e w k
