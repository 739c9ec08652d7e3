use Rattle.std.proofs.Common.{ℕ}
use Rattle.std.proofs.lemmas.List.{map_more}
use Rattle.name_tables.specs.Seen.{occurrence_at}
use Rattle.name_tables.proofs.Loops.{gains_step}
use Rattle.name_tables.proofs.things.add_keys.Goals as goal

pub loop-key-preserved : goal.loop-key-preserved
loop-key-preserved c =
    let no_key : ℕ × ℕ = (0, 0) in
    gains_step c.args.store.now _ _ _ _ _ _ (map_more (occurrence_at c.args.store.now) c.args.more.now c.loop-key.key-index no_key c.loop-key-test.true) c.loop-key.invariant c.in_ok-add_key.ensures
