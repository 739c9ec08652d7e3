use Rattle.std.proofs.Common.{◌≡◌, ℕ, List, map, length, sym, ap, ◌∙◌}
use Rattle.std.proofs.lemmas.List.{length-map}
use Rattle.trees.specs.declared.TermId.{TermId}
use Rattle.tasks.specs.declared.declaration.Decl.{Decl}
use Rattle.tasks.specs.Meaning.{trees_at, declaration_at, declarations_at}
use Rattle.printed_problems.specs.Faults.{first_print_fault, declaration_faults, printed_type_fault, formula_fault}
use Rattle.printed_problems.specs.Checks.{the_task}
use Rattle.printed_problems.proofs.First.{task_first, task_second, task_third, task_last, meets_same, meets_fault}
use Rattle.printed_problems.proofs.checks.check_parts.Goals as goal
use Rattle.tasks.proofs.outside.Passed.{no_ok}

pub returns-in_err-check_declarations : goal.returns-in_err-check_declarations
returns-in_err-check_declarations c =
    let s = c.args.c.now.store.now in
    let d = c.args.c.now.driver.now in
    let t = the_task c.args.c.now in
    record { checked = no_ok _ _ c.from_residual.result c.from_residual.ensures.1; due = meets_fault c.from_residual.result _ _ c.from_residual.ensures.1 (task_first d t _ _ (ap (λ (z : List Decl). first_print_fault (declaration_faults d t 0 (declarations_at s z))) c.as_slice-decls.ensures) c.in_err-check_declarations.ensures.due) }

pub returns-in_err-check_types : goal.returns-in_err-check_types
returns-in_err-check_types c =
    let s = c.args.c.now.store.now in
    let d = c.args.c.now.driver.now in
    let t = the_task c.args.c.now in
    let first = sym (ap (λ (z : List Decl). first_print_fault (declaration_faults d t 0 (declarations_at s z))) c.as_slice-decls.ensures) ∙ c.in_ok-check_declarations.ensures.due in
    record { checked = no_ok _ _ c.from_residual-in_err-check_types.result c.from_residual-in_err-check_types.ensures.1; due = meets_fault c.from_residual-in_err-check_types.result _ _ c.from_residual-in_err-check_types.ensures.1 (task_second d t _ _ first (ap (λ (z : List TermId). first_print_fault (map (printed_type_fault d t) (trees_at s z))) c.as_slice.ensures) c.in_err-check_types.ensures) }

pub returns-in_err-check_formulas : goal.returns-in_err-check_formulas
returns-in_err-check_formulas c =
    let s = c.args.c.now.store.now in
    let d = c.args.c.now.driver.now in
    let t = the_task c.args.c.now in
    let first = sym (ap (λ (z : List Decl). first_print_fault (declaration_faults d t 0 (declarations_at s z))) c.as_slice-decls.ensures) ∙ c.in_ok-check_declarations.ensures.due in
    let second = sym (ap (λ (z : List TermId). first_print_fault (map (printed_type_fault d t) (trees_at s z))) c.as_slice.ensures) ∙ c.in_ok-check_types.ensures in
    let count : length c.as_slice-decls.result.now ≡ length t.decls = ap length c.as_slice-decls.ensures ∙ sym (length-map c.args.c.now.task.now.decls (declaration_at s)) in
    record { checked = no_ok _ _ c.from_residual-in_err-check_formulas.result c.from_residual-in_err-check_formulas.ensures.1; due = meets_fault c.from_residual-in_err-check_formulas.result _ _ c.from_residual-in_err-check_formulas.ensures.1 (task_third d t _ _ first second (λ i. first_print_fault (map (formula_fault d t (count i)) (trees_at s (c.as_slice-2.ensures i)))) c.in_err-check_formulas.ensures.due) }

pub returns : goal.returns
returns c =
    let s = c.args.c.now.store.now in
    let d = c.args.c.now.driver.now in
    let t = the_task c.args.c.now in
    let first = sym (ap (λ (z : List Decl). first_print_fault (declaration_faults d t 0 (declarations_at s z))) c.as_slice-decls.ensures) ∙ c.in_ok-check_declarations.ensures.due in
    let second = sym (ap (λ (z : List TermId). first_print_fault (map (printed_type_fault d t) (trees_at s z))) c.as_slice.ensures) ∙ c.in_ok-check_types.ensures in
    let count : length c.as_slice-decls.result.now ≡ length t.decls = ap length c.as_slice-decls.ensures ∙ sym (length-map c.args.c.now.task.now.decls (declaration_at s)) in
    let third = (λ i. first_print_fault (map (formula_fault d t (sym count i)) (trees_at s (sym c.as_slice-2.ensures i)))) ∙ c.in_ok-check_formulas.ensures.due in
    record { due = meets_same c.check_once.result _ _ (task_last d t _ first second third (ap (λ (n : ℕ). formula_fault d t n t.goal) count)) c.check_once.ensures.due; checked = c.check_once.ensures.checked }
