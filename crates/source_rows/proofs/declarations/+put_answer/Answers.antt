use Rattle.std.proofs.Common.{length, ap, arith}
use Rattle.source_rows.proofs.declarations.+put_answer.Goals as goal

pub put_answer-requires : goal.put_answer-requires
put_answer-requires t c = (omega (arith, ap length c.in-Some.ensures.cases.0), (c.in-Ok.ensures.signature, c.in-Ok.ensures.scopes))
