use Rattle.std.proofs.Common.{length}
use Rattle.theory_states.proofs.goal_tasks.tuples.+tuple_named.Given as goal

abbrev pub decreases-tuple_named : goal.decreases-tuple_named
decreases-tuple_named l = length l.names.now
