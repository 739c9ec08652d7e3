use Rattle.std.proofs.Common.{[], ◌++◌, Err, sym, ap, subst, ◌∙◌}
use Rattle.name_resolution.specs.Abstract.{patterns_of}
use Rattle.name_resolution.specs.Faults.{patterns_names}
use Rattle.name_resolution.specs.Naming.{Tells, where_at}
use Rattle.name_resolution.proofs.Told.{of_first, of_rest, passed, on_ok, whole_fault, whole_names}
use Rattle.name_resolution.proofs.patterns.check_alternatives.Goals as goal

pub returns-in_err-check_patterns-clause-fault : goal.returns-in_err-check_patterns-clause-fault
returns-in_err-check_patterns-clause-fault c s =
    let e = c.in_err-check_patterns.field-0.0 in
    passed c.from_residual.result e _ c.from_residual.ensures.1 (of_first e _ _ (subst (Tells (Err e)) (whole_fault (where_at s c.args.world.now) [] c.args.first.now) (rw c.requires at c.in_err-check_patterns.ensures.fault s)))

pub returns-clause-fault : goal.returns-clause-fault
returns-clause-fault c s =
    let names = c.in_ok-check_patterns.ensures.names ∙ (ap (λ l. l ++ patterns_names (patterns_of c.args.first.now)) c.requires ∙ whole_names c.args.first.now) in
    of_rest c.check_later.result _ _ (sym (whole_fault (where_at s c.args.world.now) [] c.args.first.now) ∙ (rw c.requires at c.in_ok-check_patterns.ensures.fault s)) (rw (c.as_slice.ensures, names) at c.check_later.ensures s)

pub returns-clause-names : goal.returns-clause-names
returns-clause-names c = on_ok c.check_later.result (c.in_ok-check_patterns.ensures.names ∙ (ap (λ l. l ++ patterns_names (patterns_of c.args.first.now)) c.requires ∙ whole_names c.args.first.now))
