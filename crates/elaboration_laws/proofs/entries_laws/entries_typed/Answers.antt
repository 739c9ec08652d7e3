use Rattle.elaboration_laws.proofs.Entries.{further_typed, copied_typed, copied_built, variables_typed, variables_built}
use Rattle.elaboration_laws.proofs.entries_laws.entries_typed.Goals as goal

pub returns : goal.returns
returns u = record {
  further = λ xs ys h typed grounded. further_typed xs ys h typed grounded;
  copied = λ xs m theory within ks becomes h named standing. copied_typed xs m theory within ks becomes h named standing;
  variables = λ xs vs h. variables_typed xs vs h;
  built_copied = λ xs m theory within ks b other. copied_built xs m theory within ks b other;
  built_variables = λ xs vs b. variables_built xs vs b;
}
