use Rattle.std.proofs.Common.{length}
use Rattle.elab_declarations.proofs.inductive_declarations.sources.+enter_clauses.Given as goal

abbrev pub decreases-enter_clauses : goal.decreases-enter_clauses
decreases-enter_clauses l = length l.clauses.now
