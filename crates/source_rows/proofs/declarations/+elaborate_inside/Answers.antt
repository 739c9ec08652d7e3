use Rattle.std.proofs.Common.{length, ap, arith}
use Rattle.source_rows.proofs.declarations.+elaborate_inside.Goals as goal

pub elaborate_inside-requires : goal.elaborate_inside-requires
elaborate_inside-requires t c = (omega (arith, ap length c.in-Some.ensures.cases.0), (c.in_ok-elaborate.ensures.kept.signature, c.in_ok-elaborate.ensures.kept.scopes))
