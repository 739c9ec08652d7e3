use Rattle.elaboration_laws.proofs.StateNames.{symbol_becomes}
use Rattle.elaboration_laws.proofs.states_laws.names_become.Goals as goal

pub returns : goal.returns
returns u = λ v w m k h s. symbol_becomes v w m k h s
