use Rattle.step_reading.specs.shared_sums.Pending.{weighed}
use Rattle.step_reading.proofs.shared_sums.Steps.{constant_more}
use Rattle.step_reading.proofs.shared_sums.pending.put_constant.Goals as goal

pub returns-clause-sum : goal.returns-clause-sum
returns-clause-sum c = λ f x y h k. constant_more c.args.pending.now.constant c.add-pending.result (weighed f c.args.pending.now.multiples.entries) x y (λ m i. c.add-pending.ensures m y i k) h
