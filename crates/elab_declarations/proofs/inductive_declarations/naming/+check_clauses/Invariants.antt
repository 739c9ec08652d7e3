use Rattle.std.proofs.Common.{length}
use Rattle.elab_declarations.proofs.inductive_declarations.naming.+check_clauses.Given as goal

abbrev pub decreases-check_clauses : goal.decreases-check_clauses
decreases-check_clauses l = length l.clauses.now
