use Rattle.elaboration_laws.proofs.Steps.{next_declaration}
use Rattle.elaboration_laws.proofs.valid.next_valid.Goals as goal

pub returns : goal.returns
returns k = λ c ds d x g s h names made t b q w p e sorted held passes. next_declaration c ds d x g s h names made t b q w p e sorted held passes
