use Rattle.std.proofs.Common.{ℕ}
use Rattle.tasks.proofs.plain_laws.Lists.{flat_more}
use Rattle.name_tables.specs.Seen.{occurrence_at}
use Rattle.name_tables.proofs.Loops.{gains_step}
use Rattle.tr_discriminate.specs.wanted_instances.Instances.{instance_types}
use Rattle.tr_discriminate.proofs.instance_search.gathering.types_in_order.Goals as goal

pub loop-key-preserved : goal.loop-key-preserved
loop-key-preserved c =
    let no_key : ℕ × ℕ = (0, 0) in
    gains_step c.args.store.now _ _ _ _ _ _ (flat_more instance_types (occurrence_at c.args.store.now) c.args.set.now c.loop-key.key-index no_key c.loop-key-test.true) c.loop-key.invariant c.in_ok-gather.ensures
