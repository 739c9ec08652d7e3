use Rattle.std.proofs.Common.{ℕ, List, ◌++◌, codes, ap, ◌∙◌}
use Rattle.printed_problems.specs.printed_terms.Texts.{joined}
use Rattle.printed_problems.specs.printed_terms.Ranks.{sorts_at}
use Rattle.printed_problems.specs.printed_terms.Meaning.{printing}
use Rattle.part_texts.specs.smt_texts.Text.{smt_result_text}
use Rattle.part_texts.proofs.smt_texts.Joins.{last_piece}
use Rattle.part_texts.proofs.smt_texts.lines.push_rank.Goals as goal
use Rattle.tasks.proofs.plain_laws.Lists.{then_piece}
use Rattle.tasks.proofs.plain_laws.Results.{ok_items}
use Rattle.tasks.proofs.outside.Passed.{no_ok}

pub returns : goal.returns
returns c =
    let p = printing c.args.c.now in
    let o = c.args.out.now.items in
    let start = codes "(declare-fun " in
    let name = c.args.name.now in
    let sorts = joined (codes " ") (sorts_at p c.args.rank.now.args) in
    let result = smt_result_text p c.args.rank.now.result in
    last_piece c.extend_from_slice-5.result o _ _ (start ++ name ++ codes " (" ++ sorts ++ codes ") " ++ result) (codes ")\n")
    (then_piece o _ _ (start ++ name ++ codes " (" ++ sorts ++ codes ") ") result
    (then_piece o _ _ (start ++ name ++ codes " (" ++ sorts) (codes ") ")
    (then_piece o _ _ (start ++ name ++ codes " (") sorts
    (then_piece o _ _ (start ++ name) (codes " (")
    (then_piece o _ _ start name c.in_ok-extend_from_slice.ensures.items c.in_ok-extend_from_slice-2.ensures.items)
    c.in_ok-extend_from_slice-3.ensures.items)
    (c.in_ok-push_sorts.ensures ∙ ap (λ (z : List ℕ). c.extend_from_slice-3.new.self.items ++ joined (codes " ") (sorts_at p z)) c.as_slice.ensures))
    c.in_ok-extend_from_slice-4.ensures.items) c.in_ok-push_result.ensures) (ok_items c.extend_from_slice-5.result _ _ _ c.extend_from_slice-5.ensures.items)

pub returns-in_err-extend_from_slice : goal.returns-in_err-extend_from_slice
returns-in_err-extend_from_slice c = no_ok _ _ c.from_residual.result c.from_residual.ensures.1

pub returns-in_err-extend_from_slice-2 : goal.returns-in_err-extend_from_slice-2
returns-in_err-extend_from_slice-2 c = no_ok _ _ c.from_residual-in_err-extend_from_slice-2.result c.from_residual-in_err-extend_from_slice-2.ensures.1

pub returns-in_err-extend_from_slice-3 : goal.returns-in_err-extend_from_slice-3
returns-in_err-extend_from_slice-3 c = no_ok _ _ c.from_residual-in_err-extend_from_slice-3.result c.from_residual-in_err-extend_from_slice-3.ensures.1

pub returns-in_err-push_sorts : goal.returns-in_err-push_sorts
returns-in_err-push_sorts c = no_ok _ _ c.from_residual-in_err-push_sorts.result c.from_residual-in_err-push_sorts.ensures.1

pub returns-in_err-extend_from_slice-4 : goal.returns-in_err-extend_from_slice-4
returns-in_err-extend_from_slice-4 c = no_ok _ _ c.from_residual-in_err-extend_from_slice-4.result c.from_residual-in_err-extend_from_slice-4.ensures.1

pub returns-in_err-push_result : goal.returns-in_err-push_result
returns-in_err-push_result c = no_ok _ _ c.from_residual-in_err-push_result.result c.from_residual-in_err-push_result.ensures.1
