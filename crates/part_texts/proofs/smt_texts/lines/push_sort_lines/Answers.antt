use Rattle.std.proofs.Common.{◌++◌, codes, get_or}
use Rattle.printed_problems.specs.printed_terms.Texts.{name_at}
use Rattle.printed_problems.specs.printed_terms.Meaning.{printing}
use Rattle.part_texts.specs.smt_texts.Text.{smt_sort_line}
use Rattle.part_texts.proofs.smt_texts.lines.push_sort_lines.Goals as goal
use Rattle.tasks.proofs.plain_laws.Lists.{then_piece, lines_step}
use Rattle.tasks.proofs.outside.Passed.{no_ok}

pub loop-place-preserved : goal.loop-place-preserved
loop-place-preserved c =
    let p = printing c.args.c.now in
    let name = name_at p (get_or c.args.places.now c.loop-place.place-index 0) in
    lines_step (smt_sort_line p) c.args.places.now c.loop-place.place-index 0 c.loop-place.out.items _ _ c.loop-place-test.true
    (then_piece _ _ _ (codes "(declare-sort ") (name ++ codes " 0)\n") c.in_ok-extend_from_slice.ensures.items (then_piece _ _ _ name (codes " 0)\n") c.in_ok-push_name_at.ensures c.in_ok-extend_from_slice-2.ensures.items)) c.loop-place.invariant

pub returns-in_err-extend_from_slice : goal.returns-in_err-extend_from_slice
returns-in_err-extend_from_slice c = no_ok _ _ c.from_residual.result c.from_residual.ensures.1

pub returns-in_err-push_name_at : goal.returns-in_err-push_name_at
returns-in_err-push_name_at c = no_ok _ _ c.from_residual-in_err-push_name_at.result c.from_residual-in_err-push_name_at.ensures.1

pub returns-in_err-extend_from_slice-2 : goal.returns-in_err-extend_from_slice-2
returns-in_err-extend_from_slice-2 c = no_ok _ _ c.from_residual-in_err-extend_from_slice-2.result c.from_residual-in_err-extend_from_slice-2.ensures.1
