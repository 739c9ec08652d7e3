use Rattle.tasks.proofs.Lists.{inductives_held}
use Rattle.evidence.proofs.stage_limits.heights.body_height.Goals as goal

pub clause_height-requires : goal.clause_height-requires
clause_height-requires c = rw c.as_slice-in-Inductives.ensures (inductives_held _ _ _ c.in-Inductives.is c.requires)
