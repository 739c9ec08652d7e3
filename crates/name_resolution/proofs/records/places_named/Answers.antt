use Rattle.tasks.specs.Meaning.{symbols_at}
use Rattle.name_resolution.specs.Abstract.{field_name_of}
use Rattle.name_resolution.specs.Naming.{fields_at, symbol_named}
use Rattle.name_resolution.proofs.Fielded.{place_next}
use Rattle.name_resolution.proofs.records.places_named.Goals as goal

pub loop-name-preserved : goal.loop-name-preserved
loop-name-preserved c s =
    rw c.in_ok-push.ensures.items (place_next (symbols_at s c.args.world.now.symbols.now) (symbol_named c.args.world.now.scope.now) c.args.owner c.loop-name.places.items (fields_at c.loop-name.left) (fields_at c.in-Some.rest) (field_name_of c.in-Some.name.now) c.in_ok-place.place _ c.in-Some.ensures (c.in_ok-place.ensures s) (c.loop-name.invariant s))
