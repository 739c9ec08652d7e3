use Rattle.theories.proofs.Sources.{source_sound}
use Rattle.theories.proofs.SourceGoals.{task_valid}
use Rattle.theories.proofs.sound_laws.source_tasks_valid.Goals as goal

pub returns : goal.returns
returns u = λ text ts file all theory name t are only h is. task_valid all theory name t (source_sound text ts file all are only h) is
