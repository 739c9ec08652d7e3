use Rattle.tasks.specs.Meaning.{trees_at}
use Rattle.trees.proofs.Nodes.{Grows_refl}
use Rattle.open_types.proofs.Growing.{types_more}
use Rattle.open_types.proofs.Fielding.{place_more}
use Rattle.open_types.proofs.records.place_types.Goals as goal

pub loop-place-preserved : goal.loop-place-preserved
loop-place-preserved c =
    let i = c.loop-place.invariant in (
      rw c.in_ok-push.ensures.items (types_more _ _ (Grows_refl _) c.loop-place.them.items c.place_type.result i.0 c.place_type.ensures.held),
      rw c.in_ok-push.ensures.items (place_more c.args.store.now c.loop-place.them.items c.place_type.result (trees_at c.args.store.now c.args.types.now) c.args.places.now c.loop-place.place-index _ c.loop-place-test.true c.place_type.ensures.tree i.1),
    )
