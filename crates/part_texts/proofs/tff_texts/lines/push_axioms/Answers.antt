use Rattle.std.proofs.Common.{◌++◌, codes}
use Rattle.std.specs.Fmt.{decimal}
use Rattle.printed_problems.specs.printed_terms.Meaning.{printing}
use Rattle.part_texts.proofs.tff_texts.Joins.{axiom_step}
use Rattle.part_texts.proofs.tff_texts.lines.push_axioms.Goals as goal
use Rattle.tasks.proofs.plain_laws.Lists.{then_piece}
use Rattle.tasks.proofs.outside.Passed.{no_ok}

pub loop-number-preserved : goal.loop-number-preserved
loop-number-preserved c =
    let s = c.args.c.now.store.now in
    let n = c.loop-number.number in
    let old = c.loop-number.out.items in
    let number = decimal n in
    axiom_step (printing c.args.c.now) s c.args.formulas.now n _ old _ _ c.loop-number-test.true
    (then_piece old _ _ (codes "tff(ax_" ++ number ++ codes ", axiom, " ++ _) (codes ").\n")
    (then_piece old _ _ (codes "tff(ax_" ++ number ++ codes ", axiom, ") _
    (then_piece old _ _ (codes "tff(ax_" ++ number) (codes ", axiom, ")
    (then_piece old _ _ (codes "tff(ax_") number c.in_ok-extend_from_slice.ensures.items c.in_ok-push_number.ensures)
    c.in_ok-extend_from_slice-2.ensures.items) c.in_ok-push_formula.ensures) c.in_ok-extend_from_slice-3.ensures.items) c.loop-number.invariant

pub returns-in_err-extend_from_slice : goal.returns-in_err-extend_from_slice
returns-in_err-extend_from_slice c = no_ok _ _ c.from_residual.result c.from_residual.ensures.1

pub returns-in_err-push_number : goal.returns-in_err-push_number
returns-in_err-push_number c = no_ok _ _ c.from_residual-in_err-push_number.result c.from_residual-in_err-push_number.ensures.1

pub returns-in_err-extend_from_slice-2 : goal.returns-in_err-extend_from_slice-2
returns-in_err-extend_from_slice-2 c = no_ok _ _ c.from_residual-in_err-extend_from_slice-2.result c.from_residual-in_err-extend_from_slice-2.ensures.1

pub returns-in_err-push_formula : goal.returns-in_err-push_formula
returns-in_err-push_formula c = no_ok _ _ c.from_residual-in_err-push_formula.result c.from_residual-in_err-push_formula.ensures.1

pub returns-in_err-extend_from_slice-3 : goal.returns-in_err-extend_from_slice-3
returns-in_err-extend_from_slice-3 c = no_ok _ _ c.from_residual-in_err-extend_from_slice-3.result c.from_residual-in_err-extend_from_slice-3.ensures.1
