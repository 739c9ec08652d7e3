use Rattle.elaboration_laws.proofs.Lists.{list_valid}
use Rattle.elaboration_laws.proofs.valid.lists_valid.Goals as goal

pub returns : goal.returns
returns k = λ symbols before ds h. list_valid symbols before ds h
