use Rattle.elaboration_laws.proofs.Elaborated.{elaborated_valid}
use Rattle.elaboration_laws.proofs.valid.elaborates_valid.Goals as goal

pub returns : goal.returns
returns k = λ v c d x g s h names made t w e sorted held passes news may. elaborated_valid v c t d x g s h names made w e sorted held passes news may
