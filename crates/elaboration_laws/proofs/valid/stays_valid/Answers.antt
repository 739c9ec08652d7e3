use Rattle.elaboration_laws.proofs.Stays.{declaration_stays}
use Rattle.elaboration_laws.proofs.valid.stays_valid.Goals as goal

pub returns : goal.returns
returns k = λ v w d part h. declaration_stays v w part d h
