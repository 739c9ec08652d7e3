use Rattle.std.proofs.Common.{ℕ, List, ◌++◌, codes, ap, ◌∙◌}
use Rattle.printed_problems.specs.printed_terms.Ranks.{sorts_at}
use Rattle.printed_problems.specs.printed_terms.Meaning.{printing}
use Rattle.part_texts.specs.tff_texts.Text.{tff_typed, arguments_text, tff_result_text}
use Rattle.part_texts.proofs.tff_texts.Joins.{last_piece}
use Rattle.part_texts.proofs.tff_texts.lines.push_rank.Goals as goal
use Rattle.tasks.proofs.plain_laws.Lists.{then_piece}
use Rattle.tasks.proofs.plain_laws.Results.{ok_items}
use Rattle.tasks.proofs.outside.Passed.{no_ok}

pub returns : goal.returns
returns c =
    let p = printing c.args.c.now in
    let o = c.args.out.now.items in
    let name = tff_typed c.args.name.now in
    let args = arguments_text (sorts_at p c.args.rank.now.args) in
    let result = tff_result_text p c.args.rank.now.result in
    last_piece c.extend_from_slice.result o _ _ (name ++ args ++ result) (codes ").\n")
    (then_piece o _ _ (name ++ args) result
    (then_piece o _ _ name args c.in_ok-push_typed.ensures
    (c.in_ok-push_arguments.ensures ∙ ap (λ (z : List ℕ). c.push_typed.new.out.items ++ arguments_text (sorts_at p z)) c.as_slice.ensures))
    c.in_ok-push_result.ensures) (ok_items c.extend_from_slice.result _ _ _ c.extend_from_slice.ensures.items)

pub returns-in_err-push_typed : goal.returns-in_err-push_typed
returns-in_err-push_typed c = no_ok _ _ c.from_residual.result c.from_residual.ensures.1

pub returns-in_err-push_arguments : goal.returns-in_err-push_arguments
returns-in_err-push_arguments c = no_ok _ _ c.from_residual-in_err-push_arguments.result c.from_residual-in_err-push_arguments.ensures.1

pub returns-in_err-push_result : goal.returns-in_err-push_result
returns-in_err-push_result c = no_ok _ _ c.from_residual-in_err-push_result.result c.from_residual-in_err-push_result.ensures.1
