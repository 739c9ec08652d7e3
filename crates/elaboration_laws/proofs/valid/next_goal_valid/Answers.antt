use Rattle.elaboration_laws.proofs.Goals.{next_goal}
use Rattle.elaboration_laws.proofs.valid.next_goal_valid.Goals as goal

pub returns : goal.returns
returns k = λ c ds d x e g s h names made t b q w sorted held passes. next_goal c ds d x e g s h names made t b q w sorted held passes
