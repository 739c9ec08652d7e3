use Rattle.std.proofs.lemmas.Result.{on_ok_weaker}
use Rattle.name_tables.proofs.Steps.{noted}
use Rattle.name_tables.proofs.walk.note.Goals as goal

pub returns : goal.returns
returns c = on_ok_weaker c.add_key.result (noted c.args.store.now c.args.seen.now.keys c.add_key.new.keys.keys c.args.key c.requires.seen c.requires.types) c.add_key.ensures
