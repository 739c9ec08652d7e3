use Rattle.std.proofs.Common.{arith}
use Rattle.std.proofs.Math.ListN.{length-map}
use Rattle.trees.specs.Node.{tree_at, trees_at}
use Rattle.declarations.proofs.spelled_groups.SoughtClauses.{clauses_at, clauses_long}
use Rattle.declarations.proofs.spelled_groups.clause_origins.origin_in_clauses.Goals as goal

pub returns-then-k-clauses : goal.returns-then-k-clauses
returns-then-k-clauses c = λ vars. clauses_at c.args.symbol vars (trees_at c.args.store.now c.args.clauses.now) c.args.k (omega (arith, c.if-k-clauses.true, length-map c.args.clauses.now (tree_at c.args.store.now)))

pub returns-else-k-clauses : goal.returns-else-k-clauses
returns-else-k-clauses c = λ vars. omega (arith, clauses_long c.args.symbol vars 0 (trees_at c.args.store.now c.args.clauses.now), c.if-k-clauses.false, length-map c.args.clauses.now (tree_at c.args.store.now))
