use Rattle.name_tables.proofs.Keys.{key_added}
use Rattle.tr_discriminate.proofs.instance_search.gathering.add_key.Goals as goal

pub returns : goal.returns
returns c = key_added c.args.store.now c.laws.ensures.apart c.args.keys.now.keys c.insert.new.self.keys c.args.key c.requires.held c.requires.keys_held c.in_ok-insert.ensures.keys
