use Rattle.step_reading.proofs.shared_sums.Numbered.{atom_told}
use Rattle.step_reading.proofs.shared_sums.known.times.Goals as goal

pub returns-then-y : goal.returns-then-y
returns-then-y c = λ e a b h g. atom_told c.args.x c.args.y c.of_an_atom.result e a b c.of_an_atom.ensures c.if-x.true c.if-y.true h g
