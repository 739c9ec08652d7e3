use Rattle.std.proofs.Common.{length}
use Rattle.elab_declarations.proofs.inductive_declarations.naming.+declare_clauses.Given as goal

abbrev pub decreases-declare_clauses : goal.decreases-declare_clauses
decreases-declare_clauses l = length l.clauses.now
