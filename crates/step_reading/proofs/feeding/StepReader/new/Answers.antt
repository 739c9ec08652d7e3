use Rattle.tasks.specs.Meaning.{task_at}
use Rattle.step_reading.proofs.feeding.StepReader.new.Goals as goal

pub returns-clause-fed : goal.returns-clause-fed
returns-clause-fed c = λ s task names. record { tables = tt; read = c.no_lines.ensures (task_at s task) names c.args.tallest s; fault = tt }
