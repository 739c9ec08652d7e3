use Rattle.open_types.proofs.Forming.{hold_types}
use Rattle.open_types.proofs.types.put_types.Goals as goal

pub inst_types-requires-clause-types : goal.inst_types-requires-clause-types
inst_types-requires-clause-types c = hold_types c.args.store.now c.args.types.now c.requires.types
