use Rattle.elaboration_laws.proofs.Elaborated.{elaborated_patterns}
use Rattle.elaboration_laws.proofs.valid.elaborates_patterns.Goals as goal

pub returns : goal.returns
returns k = λ v c x g s h names made t e news. elaborated_patterns v c t x g s h names made e news
