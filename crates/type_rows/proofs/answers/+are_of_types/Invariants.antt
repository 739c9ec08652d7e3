use Rattle.std.proofs.Common.{length}
use Rattle.type_rows.proofs.answers.+are_of_types.Given as goal

abbrev pub decreases-are_of_types : goal.decreases-are_of_types
decreases-are_of_types c = length c.equations.now
