use Rattle.std.proofs.Common.{◌++◌, codes, get_or, ap, ◌∙◌}
use Rattle.printed_problems.specs.printed_terms.Texts.{name_at}
use Rattle.printed_problems.specs.printed_terms.Meaning.{printing}
use Rattle.part_texts.specs.tff_texts.Text.{tff_typed, tff_sort_line}
use Rattle.part_texts.proofs.tff_texts.lines.push_sort_lines.Goals as goal
use Rattle.tasks.proofs.plain_laws.Lists.{then_piece, lines_step}
use Rattle.tasks.proofs.outside.Passed.{no_ok}

pub loop-place-preserved : goal.loop-place-preserved
loop-place-preserved c =
    let p = printing c.args.c.now in
    let old = c.loop-place.out.items in
    let name = name_at p (get_or c.args.places.now c.loop-place.place-index 0) in
    lines_step (tff_sort_line p) c.args.places.now c.loop-place.place-index 0 old _ _ c.loop-place-test.true
    (then_piece old _ _ (tff_typed name) (codes "$tType).\n") (c.in_ok-push_typed.ensures ∙ ap (λ z. old ++ tff_typed z) c.name_at.ensures) c.in_ok-extend_from_slice.ensures.items) c.loop-place.invariant

pub returns-in_err-push_typed : goal.returns-in_err-push_typed
returns-in_err-push_typed c = no_ok _ _ c.from_residual.result c.from_residual.ensures.1

pub returns-in_err-extend_from_slice : goal.returns-in_err-extend_from_slice
returns-in_err-extend_from_slice c = no_ok _ _ c.from_residual-in_err-extend_from_slice.result c.from_residual-in_err-extend_from_slice.ensures.1
