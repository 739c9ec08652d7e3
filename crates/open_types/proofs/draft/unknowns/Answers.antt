use Rattle.trees.proofs.Nodes.{Grows_trans}
use Rattle.open_types.proofs.Taking.{taken_more}
use Rattle.open_types.proofs.draft.unknowns.Goals as goal

pub loop-number-preserved : goal.loop-number-preserved
loop-number-preserved c =
    let i = c.loop-number.invariant in
    let u = c.in_ok-ty.ensures in (
      rw c.in_ok-push.ensures.items (taken_more c.args.store.now c.args.draft.now c.loop-number.store c.loop-number.draft c.args.token c.loop-number._number c.loop-number.types.items i.0
          c.new_unknown.new.store c.new_unknown.new.draft c.in_ok-ty.ty c.new_unknown.ensures.grows u.held u.tree u.noted),
      Grows_trans c.args.store.now c.loop-number.store c.new_unknown.new.store i.1 c.new_unknown.ensures.grows,
    )
