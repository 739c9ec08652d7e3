use Rattle.std.proofs.Common.{length}
use Rattle.source_rows.proofs.declarations.+elaborate_inside.Given as goal

abbrev pub decreases-elaborate_inside : goal.decreases-elaborate_inside
decreases-elaborate_inside l = length l.decls.now
