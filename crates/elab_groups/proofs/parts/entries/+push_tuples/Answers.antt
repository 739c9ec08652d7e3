use Rattle.std.proofs.Common.{length, ap, arith}
use Rattle.std.proofs.lemmas.Result.{on_ok_weaker}
use Rattle.elab_groups.proofs.parts.Entering.{tuples_step}
use Rattle.elab_groups.proofs.parts.entries.+push_tuples.Goals as goal

pub push_tuples-requires : goal.push_tuples-requires
push_tuples-requires t c = (omega (arith, ap length c.in-Some.ensures.cases.0), c.in_ok-push_width.ensures.entries.signature)

pub returns-clause-entries : goal.returns-clause-entries
returns-clause-entries t c = rw c.in-Some.ensures.cases.0 (on_ok_weaker c.push_tuples.result (λ h. tuples_step c.in-Some.first.now c.in-Some.rest.now c.in_ok-push_width.ensures.entries h) c.push_tuples.ensures.entries)
