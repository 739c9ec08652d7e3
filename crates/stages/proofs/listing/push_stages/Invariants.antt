use Rattle.std.proofs.Common.{◌≡◌, ◌++◌, map, take}
use Rattle.stages.specs.transformations.Words.{transformation_of}
use Rattle.stages.proofs.listing.push_stages.Given as goal

abbrev pub invariant-loop-name : goal.invariant-loop-name
invariant-loop-name l = l.stages.items ≡ l.initial.stages.items ++ map transformation_of (take l.name-index l.names)
