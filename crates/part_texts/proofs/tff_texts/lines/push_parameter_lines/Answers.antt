use Rattle.std.proofs.Common.{◌++◌, codes}
use Rattle.printed_problems.specs.printed_terms.Texts.{parameter}
use Rattle.printed_problems.specs.printed_terms.Meaning.{printing}
use Rattle.part_texts.specs.tff_texts.Text.{tff_typed}
use Rattle.part_texts.proofs.tff_texts.Joins.{parameter_step}
use Rattle.part_texts.proofs.tff_texts.lines.push_parameter_lines.Goals as goal
use Rattle.tasks.proofs.plain_laws.Lists.{then_piece}
use Rattle.tasks.proofs.outside.Passed.{no_ok}

pub loop-number-preserved : goal.loop-number-preserved
loop-number-preserved c =
    let s = c.args.c.now.store.now in
    let n = c.loop-number.number in
    let old = c.loop-number.out.items in
    let name = parameter n in
    parameter_step (printing c.args.c.now) s c.args.types.now n _ old _ _ c.loop-number-test.true
    (then_piece old _ _ (tff_typed name ++ _) (codes ").\n")
    (then_piece old _ _ (tff_typed name) _
    (then_piece old _ _ (codes "tff(" ++ name ++ codes ", type, " ++ name) (codes ": ")
    (then_piece old _ _ (codes "tff(" ++ name ++ codes ", type, ") name
    (then_piece old _ _ (codes "tff(" ++ name) (codes ", type, ")
    (then_piece old _ _ (codes "tff(") name c.in_ok-extend_from_slice.ensures.items c.in_ok-push_parameter.ensures)
    c.in_ok-extend_from_slice-2.ensures.items) c.in_ok-push_parameter-2.ensures) c.in_ok-extend_from_slice-3.ensures.items)
    c.in_ok-push_sort.ensures) c.in_ok-extend_from_slice-4.ensures.items) c.loop-number.invariant

pub returns-in_err-extend_from_slice : goal.returns-in_err-extend_from_slice
returns-in_err-extend_from_slice c = no_ok _ _ c.from_residual.result c.from_residual.ensures.1

pub returns-in_err-push_parameter : goal.returns-in_err-push_parameter
returns-in_err-push_parameter c = no_ok _ _ c.from_residual-in_err-push_parameter.result c.from_residual-in_err-push_parameter.ensures.1

pub returns-in_err-extend_from_slice-2 : goal.returns-in_err-extend_from_slice-2
returns-in_err-extend_from_slice-2 c = no_ok _ _ c.from_residual-in_err-extend_from_slice-2.result c.from_residual-in_err-extend_from_slice-2.ensures.1

pub returns-in_err-push_parameter-2 : goal.returns-in_err-push_parameter-2
returns-in_err-push_parameter-2 c = no_ok _ _ c.from_residual-in_err-push_parameter-2.result c.from_residual-in_err-push_parameter-2.ensures.1

pub returns-in_err-extend_from_slice-3 : goal.returns-in_err-extend_from_slice-3
returns-in_err-extend_from_slice-3 c = no_ok _ _ c.from_residual-in_err-extend_from_slice-3.result c.from_residual-in_err-extend_from_slice-3.ensures.1

pub returns-in_err-push_sort : goal.returns-in_err-push_sort
returns-in_err-push_sort c = no_ok _ _ c.from_residual-in_err-push_sort.result c.from_residual-in_err-push_sort.ensures.1

pub returns-in_err-extend_from_slice-4 : goal.returns-in_err-extend_from_slice-4
returns-in_err-extend_from_slice-4 c = no_ok _ _ c.from_residual-in_err-extend_from_slice-4.result c.from_residual-in_err-extend_from_slice-4.ensures.1
