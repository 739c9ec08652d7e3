use Rattle.std.proofs.Common.{take}
use Rattle.tasks.specs.Task.{Defines}
use Rattle.tasks.specs.Meaning.{definitions_at}
use Rattle.theory_states.specs.goal_tasks.Named.{all_named, formulas_of}
use Rattle.theory_states.specs.goal_tasks.Gathered.{Walks}
use Rattle.theory_states.proofs.goal_tasks.declarations.note_equations.Given as goal

abbrev pub invariant-loop-def : goal.invariant-loop-def
invariant-loop-def l = Walks l.store l.initial.found.keys l.found.keys l.done.keys (all_named (formulas_of (Defines (definitions_at l.store (take l.def-index l.defs)))))
