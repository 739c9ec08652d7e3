use Rattle.rules.proofs.fact_rules.Putting.{types_of_store}
use Rattle.rules.proofs.fact_rules.parts.are_own_types.Goals as goal

pub returns : goal.returns
returns c = rw (types_of_store c.args.store.now c.args.types.now) c.is_list.ensures
