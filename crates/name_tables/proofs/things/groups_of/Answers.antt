use Rattle.std.proofs.Common.{ℕ}
use Rattle.name_tables.proofs.Grouped.{group_step}
use Rattle.name_tables.proofs.things.groups_of.Goals as goal

pub loop-key-preserved : goal.loop-key-preserved
loop-key-preserved c =
    let no_key : ℕ × ℕ = (0, 0) in
    group_step c.args.store.now c.args.seen.now c.loop-key.key-index no_key _ _ c.loop-key-test.true c.loop-key.invariant c.in_ok-push_in_group.ensures
