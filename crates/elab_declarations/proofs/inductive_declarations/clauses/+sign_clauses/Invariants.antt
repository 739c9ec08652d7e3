use Rattle.std.proofs.Common.{length}
use Rattle.elab_declarations.proofs.inductive_declarations.clauses.+sign_clauses.Given as goal

abbrev pub decreases-sign_clauses : goal.decreases-sign_clauses
decreases-sign_clauses l = length l.clauses.now
