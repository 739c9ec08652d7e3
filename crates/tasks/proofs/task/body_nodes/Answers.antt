use Rattle.tasks.proofs.Lists.{inductives_held}
use Rattle.tasks.proofs.task.body_nodes.Goals as goal

pub clause_nodes-requires : goal.clause_nodes-requires
clause_nodes-requires c = rw c.as_slice-in-Inductives.ensures (inductives_held _ _ _ c.in-Inductives.is c.requires)
