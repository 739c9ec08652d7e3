use Rattle.clones.proofs.Steps.{held_more}
use Rattle.clones.proofs.maps.SymbolMap.add_type.Goals as goal

pub returns-clause-held : goal.returns-clause-held
returns-clause-held c = λ h. record { types = held_more c.args.store.now c.args.self.now.types c.insert.new.self c.args.symbol c.args.ty c.requires.held c.requires.kind c.in_ok-insert.ensures.updates.0 h.types }
