use Rattle.std.proofs.Common.{refl, length}
use Rattle.elaboration_laws.proofs.Trials.{signatures_agree}
use Rattle.elaboration_laws.proofs.copies_laws.trials_agree.Goals as goal

pub returns : goal.returns
returns u = λ v w trial own e j agree replaced h g x. signatures_agree (length w.symbols) trial own agree v w replaced e j refl h g x
