use Rattle.std.proofs.Common.{◌∙◌}
use Rattle.name_tables.proofs.Keys.{has_key}
use Rattle.name_tables.proofs.walk.has_key.Goals as goal

pub returns : goal.returns
returns c = c.contains.ensures ∙ has_key c.args.store.now c.laws.ensures.apart c.args.keys.now.keys c.args.key c.requires.held c.requires.keys_held
