use Rattle.tasks.proofs.Lists.{inductives_held, algebraics_held}
use Rattle.tasks.proofs.roles.makes.Goals as goal

pub inductive_as-requires : goal.inductive_as-requires
inductive_as-requires c = rw c.as_slice-in-Inductives.ensures (inductives_held _ _ _ c.in-Inductives.is c.requires)

pub algebraic_as-requires : goal.algebraic_as-requires
algebraic_as-requires c = rw c.as_slice-in-Algebraics.ensures (algebraics_held _ _ _ c.in-Algebraics.is c.requires)
