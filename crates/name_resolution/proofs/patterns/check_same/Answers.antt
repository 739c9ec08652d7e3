use Rattle.std.proofs.Common.{◌++◌, ap, ◌∙◌}
use Rattle.name_resolution.specs.Abstract.{patterns_of}
use Rattle.name_resolution.specs.Faults.{patterns_names}
use Rattle.name_resolution.proofs.Told.{whole_names, tells}
use Rattle.name_resolution.proofs.patterns.check_same.Goals as goal

pub returns : goal.returns
returns c =
    let names = c.in_ok-enter_all_names.ensures ∙ (ap (λ l. l ++ patterns_names (patterns_of c.args.patterns.now)) c.new-names.ensures ∙ whole_names c.args.patterns.now) in
    tells _ _ (rw (c.same_names.ensures, c.as_slice.ensures, names, c.first_token-token.ensures) at c.refuse_if.ensures)
