use Rattle.name_tables.specs.Groups.{instances_in}
use Rattle.name_tables.proofs.Loops.{gains_step}
use Rattle.name_tables.proofs.things.add_all_instances.Goals as goal
use Rattle.tasks.proofs.plain_laws.Lists.{flat_take}

pub loop-symbol-preserved : goal.loop-symbol-preserved
loop-symbol-preserved c =
    gains_step c.args.store.now _ _ _ _ _ _ (flat_take (instances_in c.args.store.now c.args.ints c.args.groups.now) c.args.symbols.now c.loop-symbol.symbol-index 0 c.loop-symbol-test.true) c.loop-symbol.invariant c.in_ok-add_instances.ensures
