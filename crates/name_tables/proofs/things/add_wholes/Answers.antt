use Rattle.std.proofs.lemmas.List.{map_more}
use Rattle.name_tables.specs.Occurrences.{whole_occurrence}
use Rattle.name_tables.proofs.Loops.{gains_step}
use Rattle.name_tables.proofs.things.add_wholes.Goals as goal

pub loop-symbol-preserved : goal.loop-symbol-preserved
loop-symbol-preserved c = gains_step c.args.store.now _ _ _ _ _ _ (map_more whole_occurrence c.args.symbols.now c.loop-symbol.symbol-index 0 c.loop-symbol-test.true) c.loop-symbol.invariant c.in_ok-add_whole.ensures
