use Rattle.elaboration_laws.proofs.Scoped.{goal_valid}
use Rattle.elaboration_laws.proofs.sound_states.goals_valid.Goals as goal

pub returns : goal.returns
returns u = λ all decls t g h c ints. goal_valid all decls t g h c ints
