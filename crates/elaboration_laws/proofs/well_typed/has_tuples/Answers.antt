use Rattle.elaboration_laws.proofs.Widths.{tuples_seen}
use Rattle.elaboration_laws.proofs.well_typed.has_tuples.Goals as goal

pub returns : goal.returns
returns c = λ v w e s g. tuples_seen v w e s g
