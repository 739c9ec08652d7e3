use Rattle.std.proofs.Common.{rules}
use Rattle.step_reading.proofs.Fed.{none_fed}
use Rattle.step_reading.proofs.ended.no_lines.Goals as goal

pub returns : goal.returns
returns c = λ t names tallest s. none_fed t names tallest s _ (search rules) (search rules) (search rules) (search rules) (search rules) (search rules) (search rules)
