use Rattle.elaboration_laws.proofs.ClonedGoals.{goal_sound}
use Rattle.elaboration_laws.proofs.copies_laws.new_goals_sound.Goals as goal

pub returns : goal.returns
returns u = λ symbols now e vs name before sound right scoped f quoted. goal_sound symbols now sound right scoped e vs f quoted name before
