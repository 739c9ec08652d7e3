use Rattle.elaboration_laws.proofs.Solutions.{matches_typed}
use Rattle.elaboration_laws.proofs.well_typed.has_typed_matches.Goals as goal

pub returns : goal.returns
returns c = λ v w r ls n t e tree ms h a s. matches_typed v w h.signature r ls n t e tree ms h a s
