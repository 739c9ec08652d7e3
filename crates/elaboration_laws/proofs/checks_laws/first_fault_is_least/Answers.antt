use Rattle.elaboration_laws.proofs.Least.{is_least}
use Rattle.elaboration_laws.proofs.LeastMade.{made_at}
use Rattle.elaboration_laws.proofs.LeastUsed.{used_at}
use Rattle.elaboration_laws.proofs.checks_laws.first_fault_is_least.Goals as goal

pub returns : goal.returns
returns c = record {
  expression = λ w o ls due i e l p. is_least w o ls due i e l p;
  uses = λ c i s l p. used_at c i s l p;
  makes = λ declared i s p. made_at declared i s p;
}
