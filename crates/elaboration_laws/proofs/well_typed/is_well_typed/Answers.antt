use Rattle.elaboration_laws.proofs.Solutions.{solved_typed}
use Rattle.elaboration_laws.proofs.well_typed.is_well_typed.Goals as goal

pub returns : goal.returns
returns c = λ v w r ls n t e tree ms h a s i. solved_typed v w h.signature r ls n t e tree ms h a s i
