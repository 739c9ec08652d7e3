use Rattle.std.proofs.Common.{length}
use Rattle.source_rows.proofs.declarations.+put_answer.Given as goal

abbrev pub decreases-put_answer : goal.decreases-put_answer
decreases-put_answer l = length l.counted.decls.now
