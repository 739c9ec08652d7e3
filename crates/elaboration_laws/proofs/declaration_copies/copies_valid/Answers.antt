use Rattle.elaboration_laws.proofs.Declarations.{declaration_valid}
use Rattle.elaboration_laws.proofs.declaration_copies.copies_valid.Goals as goal

pub returns : goal.returns
returns k = λ v w m theory within d morphism sound all h. declaration_valid v w m morphism sound theory within d all h
