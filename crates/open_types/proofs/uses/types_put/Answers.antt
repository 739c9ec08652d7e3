use Rattle.trees.proofs.Nodes.{Grows_trans}
use Rattle.open_types.proofs.Growing.{types_more}
use Rattle.open_types.proofs.Using.{put_more}
use Rattle.open_types.proofs.uses.types_put.Goals as goal

pub loop-arg-preserved : goal.loop-arg-preserved
loop-arg-preserved c =
    let i = c.loop-arg.invariant in
    let h = c.put_types.ensures.grows in (
      Grows_trans _ _ _ i.0 h,
      rw c.in_ok-push.ensures.items (types_more _ _ h c.loop-arg.them.items c.in_ok-ty.ty i.1 c.in_ok-ty.ensures.held),
      rw c.in_ok-push.ensures.items (put_more c.args.store.now c.loop-arg.store c.put_types.new.store i.0 h c.args.types.now c.requires.types c.args.args.now c.loop-arg.them.items c.loop-arg.arg-index _ c.in_ok-ty.ty c.requires.args c.loop-arg-test.true i.1 i.2 c.in_ok-ty.ensures.tree),
    )
