use Rattle.std.proofs.Common.{length}
use Rattle.tasks_tests.proofs.linear.rows.+are_held.Given as goal

abbrev pub decreases-are_held : goal.decreases-are_held
decreases-are_held c = length c.sequent.now
