use Rattle.elaboration_laws.proofs.Moved.{declaration_moves}
use Rattle.elaboration_laws.proofs.valid.moves_valid.Goals as goal

pub returns : goal.returns
returns k = λ v w d q n h. declaration_moves v w q d n h
