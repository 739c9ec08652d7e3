use Rattle.std.proofs.Common.{length}
use Rattle.tasks.proofs.task.+clause_nodes.Given as goal

abbrev pub decreases-clause_nodes : goal.decreases-clause_nodes
decreases-clause_nodes l = length l.inductives.now
