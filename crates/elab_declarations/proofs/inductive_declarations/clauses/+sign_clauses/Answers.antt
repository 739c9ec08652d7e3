use Rattle.std.proofs.lemmas.Result.{on_ok_weaker}
use Rattle.elab_declarations.proofs.inductive_declarations.ClausesResolved.{signed_more}
use Rattle.elab_declarations.proofs.inductive_declarations.clauses.+sign_clauses.Goals as goal

pub returns-clause-held : goal.returns-clause-held
returns-clause-held t c =
    on_ok_weaker c.sign_clauses.result (λ h s old. h s (signed_more s c.args.list.now.items c.in_ok-vars.vars c.new.result c.new.ensures old)) (rw c.in_ok-push.ensures.items at c.sign_clauses.ensures.held)
