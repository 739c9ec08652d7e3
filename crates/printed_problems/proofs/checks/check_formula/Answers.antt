use Rattle.std.proofs.Common.{◌≡◌, [], sym, ◌∙◌, arith}
use Rattle.std.proofs.lemmas.Bool.Decides.{nat_tests}
use Rattle.std.proofs.lemmas.List.{nil_from_length}
use Rattle.trees.specs.Tree.{above_ty_vars}
use Rattle.trees.specs.Node.{tree_at}
use Rattle.name_tables.specs.Occurrences.{occurrences}
use Rattle.printed_problems.specs.declared.fault.PrintFault.TheVariants.{Memory}
use Rattle.printed_problems.specs.Checks.{the_task}
use Rattle.printed_problems.proofs.Finding.{seen_meets, syntax_none}
use Rattle.printed_problems.proofs.First.{meets_same, meets_fault, formula_rest}
use Rattle.printed_problems.proofs.checks.check_formula.Goals as goal
use Rattle.tasks.proofs.outside.Passed.{no_ok}
use Rattle.tasks.proofs.plain_laws.Results.{ok_any}

pub returns-in_err-has_forms-clause-due : goal.returns-in_err-has_forms-clause-due
returns-in_err-has_forms-clause-due c = meets_fault c.from_residual.result _ Memory c.from_residual.ensures.1 tt

pub returns-in_err-has_forms-clause-done : goal.returns-in_err-has_forms-clause-done
returns-in_err-has_forms-clause-done c = no_ok _ _ c.from_residual.result c.from_residual.ensures.1

pub returns-then-is_empty-clause-due : goal.returns-then-is_empty-clause-due
returns-then-is_empty-clause-due c =
    let e = tree_at c.args.c.now.store.now c.args.e in
    let none : c.args.c.now.bare.now ≡ [] = nil_from_length c.args.c.now.bare.now (grind (arith, nat_tests)) in
    let closed : above_ty_vars e ≡ 0 = omega (arith, c.above_type_variables.ensures, c.if-above_type_variables-ne0.false) in
    formula_rest c.args.c.now.driver.now (the_task c.args.c.now) c.args.number e (sym c.in_ok-has_forms.ensures.is ∙ c.if-not-branch.false) closed ∙ syntax_none c.args.c.now c.requires.can (occurrences e) none

pub returns-then-is_empty-clause-done : goal.returns-then-is_empty-clause-done
returns-then-is_empty-clause-done c = c.in_ok-has_forms.ensures.done

pub returns-clause-due : goal.returns-clause-due
returns-clause-due c =
    let e = tree_at c.args.c.now.store.now c.args.e in
    let closed : above_ty_vars e ≡ 0 = omega (arith, c.above_type_variables.ensures, c.if-above_type_variables-ne0.false) in
    let rest = formula_rest c.args.c.now.driver.now (the_task c.args.c.now) c.args.number e (sym c.in_ok-has_forms.ensures.is ∙ c.if-not-branch.false) closed in
    meets_same c.check_seen.result _ _ (sym rest) (seen_meets c.args.c.now c.requires.can c.of_term.result (occurrences e) c.check_seen.result c.of_term.ensures.things c.check_seen.ensures)

pub returns-clause-done : goal.returns-clause-done
returns-clause-done c = ok_any c.check_seen.result c.in_ok-has_forms.ensures.done
