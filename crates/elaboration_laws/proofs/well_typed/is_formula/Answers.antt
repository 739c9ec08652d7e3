use Rattle.elaboration_laws.proofs.Solutions.{solved_formula}
use Rattle.elaboration_laws.proofs.well_typed.is_formula.Goals as goal

pub returns : goal.returns
returns c = λ v w r n e tree ms h s i. solved_formula v w h.signature r n e tree ms h s i
