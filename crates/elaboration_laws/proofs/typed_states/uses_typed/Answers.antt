use Rattle.elaboration_laws.proofs.Keeping.{used_typed}
use Rattle.elaboration_laws.proofs.typed_states.uses_typed.Goals as goal

pub returns : goal.returns
returns c = used_typed
