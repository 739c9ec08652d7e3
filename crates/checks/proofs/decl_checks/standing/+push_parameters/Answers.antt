use Rattle.std.proofs.Common.{◌≡◌, ◌-◌, ◌++◌, ◌∷◌, [], List, OnOk, ap, ◌∙◌, subst}
use Rattle.checks.specs.declared.decl_checks.standing.Standing.{Standing}
use Rattle.checks.specs.decl_checks.Structure.{parameter_standings}
use Rattle.checks.proofs.decl_checks.Parameters.{parameters_next}
use Rattle.checks.proofs.decl_checks.standing.+push_parameters.Goals as goal

pub returns : goal.returns
returns t c =
    let old = c.args.out.now.items in
    let count = c.args.count in
    let place = c.args.place in
    let pushed : c.push.new.self.items ++ parameter_standings (count - 1) place ≡ old ++ parameter_standings count place =
    ap (λ (l : List Standing). l ++ parameter_standings (count - 1) place) (c.in_ok-push.ensures.items ∙ ap (λ (x : Standing). old ++ x ∷ []) c.parameter-first.ensures)
    ∙ parameters_next old count place c.if-count-eq0.false in
    subst (λ (l : List Standing). OnOk c.push_parameters.result (c.push_parameters.new.out.items ≡ l)) pushed c.push_parameters.ensures
