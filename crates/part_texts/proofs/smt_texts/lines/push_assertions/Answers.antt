use Rattle.std.proofs.Common.{◌++◌, codes}
use Rattle.printed_problems.specs.printed_terms.Meaning.{printing}
use Rattle.part_texts.specs.smt_texts.Text.{assertion}
use Rattle.part_texts.proofs.smt_texts.Joins.{mapped_step}
use Rattle.part_texts.proofs.smt_texts.lines.push_assertions.Goals as goal
use Rattle.tasks.proofs.plain_laws.Lists.{then_piece}
use Rattle.tasks.proofs.outside.Passed.{no_ok}

pub loop-formula-preserved : goal.loop-formula-preserved
loop-formula-preserved c =
    let s = c.args.c.now.store.now in
    mapped_step (assertion (printing c.args.c.now)) s c.args.formulas.now c.loop-formula.formula-index _ c.loop-formula.out.items _ _ c.loop-formula-test.true
    (then_piece _ _ _ (codes "(assert ") (_ ++ codes ")\n") c.in_ok-extend_from_slice.ensures.items (then_piece _ _ _ _ (codes ")\n") c.in_ok-push_formula.ensures c.in_ok-extend_from_slice-2.ensures.items)) c.loop-formula.invariant

pub returns-in_err-extend_from_slice : goal.returns-in_err-extend_from_slice
returns-in_err-extend_from_slice c = no_ok _ _ c.from_residual.result c.from_residual.ensures.1

pub returns-in_err-push_formula : goal.returns-in_err-push_formula
returns-in_err-push_formula c = no_ok _ _ c.from_residual-in_err-push_formula.result c.from_residual-in_err-push_formula.ensures.1

pub returns-in_err-extend_from_slice-2 : goal.returns-in_err-extend_from_slice-2
returns-in_err-extend_from_slice-2 c = no_ok _ _ c.from_residual-in_err-extend_from_slice-2.result c.from_residual-in_err-extend_from_slice-2.ensures.1
