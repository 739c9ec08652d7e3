use Rattle.std.proofs.Common.{take}
use Rattle.tasks.specs.Meaning.{symbols_at, declarations_at}
use Rattle.theory_states.specs.goal_tasks.Named.{declarations_named}
use Rattle.theory_states.specs.goal_tasks.Gathered.{Walks}
use Rattle.theory_states.proofs.goal_tasks.declarations.note_task.Given as goal

abbrev pub invariant-loop-decl : goal.invariant-loop-decl
invariant-loop-decl l = Walks l.store l.initial.found.keys l.found.keys l.done.keys (declarations_named (symbols_at l.store l.sig.symbols) (declarations_at l.store (take l.decl-index l.decls)))
