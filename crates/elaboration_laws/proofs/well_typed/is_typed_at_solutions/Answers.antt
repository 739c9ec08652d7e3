use Rattle.elaboration_laws.proofs.Solutions.{typed_at_solution}
use Rattle.elaboration_laws.proofs.well_typed.is_typed_at_solutions.Goals as goal

pub returns : goal.returns
returns c = λ v w r ls n t e f h a o s i. typed_at_solution v w h.signature r ls n t e f h a o s i
