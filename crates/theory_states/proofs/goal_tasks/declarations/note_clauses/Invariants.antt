use Rattle.std.proofs.Common.{take}
use Rattle.tasks.specs.Task.{Induces}
use Rattle.tasks.specs.Meaning.{inductives_at}
use Rattle.theory_states.specs.goal_tasks.Named.{all_named, formulas_of}
use Rattle.theory_states.specs.goal_tasks.Gathered.{Walks}
use Rattle.theory_states.proofs.goal_tasks.declarations.note_clauses.Given as goal

abbrev pub invariant-loop-inductive : goal.invariant-loop-inductive
invariant-loop-inductive l = Walks l.store l.initial.found.keys l.found.keys l.done.keys (all_named (formulas_of (Induces (inductives_at l.store (take l.inductive-index l.inductives)))))
