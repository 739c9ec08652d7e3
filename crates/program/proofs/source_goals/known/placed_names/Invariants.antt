use Rattle.std.proofs.Common.{◌≡◌, map, take, string_bytes}
use Rattle.theories.specs.theory_states.goal_tasks.Meaning.{placed}
use Rattle.program.specs.source_goals.Known.{names_in}
use Rattle.program.proofs.source_goals.known.placed_names.Given as goal

abbrev pub invariant-loop-at : goal.invariant-loop-at
invariant-loop-at l = map string_bytes l.names.items ≡ names_in l.path (placed l.decls (take l.at l.places))
