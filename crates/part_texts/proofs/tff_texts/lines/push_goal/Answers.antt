use Rattle.std.proofs.Common.{◌++◌, codes}
use Rattle.trees.specs.Node.{tree_at}
use Rattle.printed_problems.specs.printed_terms.Texts.{formula_text}
use Rattle.printed_problems.specs.printed_terms.Meaning.{printing}
use Rattle.part_texts.proofs.tff_texts.Joins.{last_piece}
use Rattle.part_texts.proofs.tff_texts.lines.push_goal.Goals as goal
use Rattle.tasks.proofs.plain_laws.Lists.{then_piece}
use Rattle.tasks.proofs.plain_laws.Results.{ok_items}
use Rattle.tasks.proofs.outside.Passed.{no_ok}

pub returns : goal.returns
returns c =
    let o = c.args.out.now.items in
    let formula = formula_text (printing c.args.c.now) (tree_at c.args.c.now.store.now c.args.e) in
    last_piece c.extend_from_slice-2.result o _ _ (codes "tff(goal, conjecture, " ++ formula) (codes ").\n")
    (then_piece o _ _ (codes "tff(goal, conjecture, ") formula c.in_ok-extend_from_slice.ensures.items c.in_ok-push_formula.ensures) (ok_items c.extend_from_slice-2.result _ _ _ c.extend_from_slice-2.ensures.items)

pub returns-in_err-extend_from_slice : goal.returns-in_err-extend_from_slice
returns-in_err-extend_from_slice c = no_ok _ _ c.from_residual.result c.from_residual.ensures.1

pub returns-in_err-push_formula : goal.returns-in_err-push_formula
returns-in_err-push_formula c = no_ok _ _ c.from_residual-in_err-push_formula.result c.from_residual-in_err-push_formula.ensures.1
