use Rattle.std.proofs.Common.{◌≡◌, Ok, Err, subst, length}
use Rattle.drivers.specs.driver_tokens.Machine.{cut}
use Rattle.drivers.specs.driver_tokens.File.{tokens_of_lines, Cuts}
use Rattle.drivers.proofs.driver_tokens.TextLines.{found_exact, found_lines, err_exact, err_refused}
use Rattle.drivers.proofs.driver_tokens.file.read_lines.Goals as goal

pub returns-in-Ok-clause-exact : goal.returns-in-Ok-clause-exact
returns-in-Ok-clause-exact c =
    let lines = c.in-Ok.lines.items in
    found_exact c.args.text.now c.in_ok-tokens.tokens.items lines c.in_ok-tokens.ensures (subst (λ v. cut (λ x. x.terminal) v ≡ Ok (tokens_of_lines v lines)) c.deref.ensures.value c.in-Ok.ensures)

pub returns-in-Ok-clause-lines : goal.returns-in-Ok-clause-lines
returns-in-Ok-clause-lines c =
    let lines = c.in-Ok.lines.items in
    found_lines c.args.text.now c.in_ok-tokens.tokens.items lines c.in_ok-tokens.ensures (subst (λ v. cut (λ x. x.terminal) v ≡ Ok (tokens_of_lines v lines)) c.deref.ensures.value c.in-Ok.ensures)

pub returns-in-Err-clause-exact : goal.returns-in-Err-clause-exact
returns-in-Err-clause-exact c =
    err_exact c.args.text.now c.in_ok-tokens.tokens.items c.in-Err.fault c.in_ok-tokens.ensures (subst (λ v. Cuts v (length c.args.text.now) (Err c.in-Err.fault)) c.deref.ensures.value c.in-Err.ensures)

pub returns-in-Err-clause-refused : goal.returns-in-Err-clause-refused
returns-in-Err-clause-refused c =
    err_refused c.args.text.now c.in_ok-tokens.tokens.items c.in-Err.fault c.in_ok-tokens.ensures (subst (λ v. Cuts v (length c.args.text.now) (Err c.in-Err.fault)) c.deref.ensures.value c.in-Err.ensures)
