use Rattle.std.proofs.Common.{ℕ, List, ◌++◌, ap, ◌∙◌}
use Rattle.std.specs.List.{flat_map}
use Rattle.trees.specs.declared.TermId.{TermId}
use Rattle.trees.specs.Node.{tree_at}
use Rattle.tasks.specs.declared.signature.Signature.{Signature}
use Rattle.tasks.specs.Meaning.{trees_at, symbols_at}
use Rattle.printed_problems.specs.printed_terms.Problems.{line}
use Rattle.printed_problems.specs.printed_terms.Meaning.{printing}
use Rattle.part_texts.specs.tff_texts.Text.{tff_head_line, tff_sort_line, tff_symbol_line, tff_parameter_lines, axiom_lines, tff_goal_line}
use Rattle.part_texts.proofs.tff_texts.Joins.{last_piece}
use Rattle.part_texts.proofs.tff_texts.text.push_tff_problem.Goals as goal
use Rattle.tasks.proofs.plain_laws.Lists.{then_piece}
use Rattle.tasks.proofs.outside.Passed.{no_ok}

pub returns : goal.returns
returns c =
    let s = c.args.c.now.store.now in
    let p = printing c.args.c.now in
    let task = c.args.task.now in
    let problem = c.args.problem.now in
    let symbols = symbols_at s task.sig.value.symbols in
    let symbols_are = c.as_slice-3.ensures ∙ ap (λ (z : Signature). z.symbols) c.deref.ensures in
    let preludes = flat_map line problem.preludes in
    let sorts = flat_map (tff_sort_line p) problem.sorts in
    let lines = flat_map (tff_symbol_line p symbols) problem.symbols in
    let params = tff_parameter_lines p 0 (trees_at s task.params) in
    let premises = axiom_lines p 0 (trees_at s problem.facts ++ trees_at s problem.locals) in
    let told = tff_goal_line p (tree_at s problem.goal) in
    let head = tff_head_line c.args.part c.args.parts in
    let o = c.args.out.now.items in
    last_piece c.push_goal.result o _ _ (head ++ preludes ++ sorts ++ lines ++ params ++ premises) told
    (then_piece o _ _ (head ++ preludes ++ sorts ++ lines ++ params) premises
    (then_piece o _ _ (head ++ preludes ++ sorts ++ lines) params
    (then_piece o _ _ (head ++ preludes ++ sorts) lines
    (then_piece o _ _ (head ++ preludes) sorts
    (then_piece o _ _ head preludes c.in_ok-push_head.ensures
    (c.in_ok-push_preludes.ensures ∙ ap (λ (z : List (List ℕ)). c.push_head.new.out.items ++ flat_map line z) c.as_slice.ensures))
    (c.in_ok-push_sort_lines.ensures ∙ ap (λ (z : List ℕ). c.push_preludes.new.out.items ++ flat_map (tff_sort_line p) z) c.as_slice-2.ensures))
    (c.in_ok-push_symbol_lines.ensures ∙ (λ i. c.push_sort_lines.new.out.items ++ flat_map (tff_symbol_line p (symbols_at s (symbols_are i))) (c.as_slice-4.ensures i))))
    (c.in_ok-push_parameter_lines.ensures ∙ ap (λ (z : List TermId). c.push_symbol_lines.new.out.items ++ tff_parameter_lines p 0 (trees_at s z)) c.as_slice-5.ensures))
    c.in_ok-push_premises.ensures)
    c.push_goal.ensures

pub returns-in_err-push_head : goal.returns-in_err-push_head
returns-in_err-push_head c = no_ok _ _ c.from_residual.result c.from_residual.ensures.1

pub returns-in_err-push_preludes : goal.returns-in_err-push_preludes
returns-in_err-push_preludes c = no_ok _ _ c.from_residual-in_err-push_preludes.result c.from_residual-in_err-push_preludes.ensures.1

pub returns-in_err-push_sort_lines : goal.returns-in_err-push_sort_lines
returns-in_err-push_sort_lines c = no_ok _ _ c.from_residual-in_err-push_sort_lines.result c.from_residual-in_err-push_sort_lines.ensures.1

pub returns-in_err-push_symbol_lines : goal.returns-in_err-push_symbol_lines
returns-in_err-push_symbol_lines c = no_ok _ _ c.from_residual-in_err-push_symbol_lines.result c.from_residual-in_err-push_symbol_lines.ensures.1

pub returns-in_err-push_parameter_lines : goal.returns-in_err-push_parameter_lines
returns-in_err-push_parameter_lines c = no_ok _ _ c.from_residual-in_err-push_parameter_lines.result c.from_residual-in_err-push_parameter_lines.ensures.1

pub returns-in_err-push_premises : goal.returns-in_err-push_premises
returns-in_err-push_premises c = no_ok _ _ c.from_residual-in_err-push_premises.result c.from_residual-in_err-push_premises.ensures.1
