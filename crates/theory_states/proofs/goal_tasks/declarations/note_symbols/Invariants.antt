use Rattle.std.proofs.Common.{take}
use Rattle.tasks.specs.Meaning.{symbols_at}
use Rattle.theory_states.specs.goal_tasks.Named.{signatures_named}
use Rattle.theory_states.specs.goal_tasks.Gathered.{Walks}
use Rattle.theory_states.proofs.goal_tasks.declarations.note_symbols.Given as goal

abbrev pub invariant-loop-symbol : goal.invariant-loop-symbol
invariant-loop-symbol l = Walks l.store l.initial.found.keys l.found.keys l.done.keys (signatures_named (symbols_at l.store l.sig.symbols) (take l.symbol-index l.symbols))
