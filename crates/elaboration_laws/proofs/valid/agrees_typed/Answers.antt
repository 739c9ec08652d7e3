use Rattle.elaboration_laws.proofs.Begin.{agrees}
use Rattle.elaboration_laws.proofs.valid.agrees_typed.Goals as goal

pub returns : goal.returns
returns k = λ v w c a h. agrees v w c a h
