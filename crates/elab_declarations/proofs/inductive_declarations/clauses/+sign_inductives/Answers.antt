use Rattle.std.proofs.lemmas.Result.{on_ok_weaker}
use Rattle.elab_declarations.proofs.inductive_declarations.clauses.+sign_inductives.Goals as goal

pub returns-clause-held : goal.returns-clause-held
returns-clause-held t c = on_ok_weaker c.sign_inductives.result (λ h s old. h s (c.in_ok-sign_clauses.ensures.held s old)) c.sign_inductives.ensures.held
