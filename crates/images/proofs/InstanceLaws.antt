-- The laws of instances one after another and of types put in, each of lemmas.
use Rattle.images.specs.Instances.{InstancesCompose, QuantifiersOpen, LoweredAreAt, ImagesAreAtTypes, TestsAreAtTypes, BindsAreAtTypes}
use Rattle.images.proofs.OpenInstances.{composed, for_all_opens, lowered, image_at_types}
use Rattle.images.proofs.PatternTypes.{test_there, bind_there}

pub compose : InstancesCompose
compose us ts e c w l = composed us ts e c w l

pub quantifiers : QuantifiersOpen
quantifiers types ts e c k n = for_all_opens types ts e c k n

pub lower : LoweredAreAt
lower env b x c k o l w = lowered env b x c k o l w

pub images_at_types : ImagesAreAtTypes
images_at_types f o tys k e c = image_at_types f o tys k e c

pub tests_at_types : TestsAreAtTypes
tests_at_types t valid tys types p s k = test_there tys t valid types p s k.typed k.sort

pub terms_at_types : BindsAreAtTypes
terms_at_types t valid tys types p s k = bind_there tys t valid types p s k.typed k.sort
