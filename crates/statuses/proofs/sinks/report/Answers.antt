use Rattle.std.proofs.Common.{Err, refl}
use Rattle.outside.specs.declared.traits.PutFault.TheVariants as put_fault
use Rattle.statuses.proofs.Gaining.{gains_none}
use Rattle.statuses.proofs.sinks.report.Goals as goal

pub returns-in-Err : goal.returns-in-Err
returns-in-Err g c = (Err put_fault.Memory, ((0, gains_none (g.E.Sink.state c.args.err.now).written), refl), refl)
