use Rattle.elaboration_laws.proofs.CopiedRights.{right_typed}
use Rattle.elaboration_laws.proofs.copies_laws.rights_typed.Goals as goal

pub returns : goal.returns
returns u = λ base c vars f h q news. right_typed base c vars f h q news
