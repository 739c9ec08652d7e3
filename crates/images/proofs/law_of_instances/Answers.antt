-- All are lemmas.
use Rattle.images.proofs.InstanceLaws.{compose, quantifiers, lower, images_at_types}
use Rattle.images.proofs.law_of_instances.Goals as goal

pub returns-clause-compose : goal.returns-clause-compose
returns-clause-compose c = compose

pub returns-clause-quantifiers : goal.returns-clause-quantifiers
returns-clause-quantifiers c = quantifiers

pub returns-clause-lowered : goal.returns-clause-lowered
returns-clause-lowered c = lower

pub returns-clause-images : goal.returns-clause-images
returns-clause-images c = images_at_types
