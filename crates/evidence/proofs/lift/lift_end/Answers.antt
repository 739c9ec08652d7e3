use Rattle.std.proofs.Common.{get_or}
use Rattle.evidence.proofs.lift.lift_end.Goals as goal

pub returns-clause-sequents : goal.returns-clause-sequents
returns-clause-sequents g c = λ j h. (get_or c.in_ok-numbers.numbers.items j 0, c.in_ok-numbers.ensures.numbers.each j h)
