use Rattle.std.proofs.Common.{ℕ, List, ◌++◌, codes, ap, ◌∙◌}
use Rattle.std.specs.List.{flat_map}
use Rattle.trees.specs.declared.TermId.{TermId}
use Rattle.trees.specs.Node.{tree_at}
use Rattle.tasks.specs.declared.signature.Signature.{Signature}
use Rattle.tasks.specs.Meaning.{trees_at, symbols_at}
use Rattle.printed_problems.specs.printed_terms.Problems.{line}
use Rattle.printed_problems.specs.printed_terms.Meaning.{printing}
use Rattle.part_texts.specs.smt_texts.Text.{smt_head_line, smt_sort_line, smt_symbol_line, smt_parameter_lines, assertion, smt_goal_line}
use Rattle.part_texts.proofs.smt_texts.Joins.{last_piece}
use Rattle.part_texts.proofs.smt_texts.text.push_smt_problem.Goals as goal
use Rattle.tasks.proofs.plain_laws.Lists.{then_piece}
use Rattle.tasks.proofs.plain_laws.Results.{ok_items}
use Rattle.tasks.proofs.outside.Passed.{no_ok}

pub returns : goal.returns
returns c =
    let s = c.args.c.now.store.now in
    let p = printing c.args.c.now in
    let task = c.args.task.now in
    let problem = c.args.problem.now in
    let symbols = symbols_at s task.sig.value.symbols in
    let symbols_are = c.as_slice-3.ensures ∙ ap (λ (z : Signature). z.symbols) c.deref.ensures in
    let preludes = flat_map line problem.preludes in
    let sorts = flat_map (smt_sort_line p) problem.sorts in
    let lines = flat_map (smt_symbol_line p symbols) problem.symbols in
    let params = smt_parameter_lines p 0 (trees_at s task.params) in
    let facts = flat_map (assertion p) (trees_at s problem.facts) in
    let locals = flat_map (assertion p) (trees_at s problem.locals) in
    let told = smt_goal_line p (tree_at s problem.goal) in
    let head = smt_head_line c.args.part c.args.parts in
    let o = c.args.out.now.items in
    last_piece c.extend_from_slice.result o _ _ (head ++ preludes ++ sorts ++ lines ++ params ++ facts ++ locals ++ told) (codes "(check-sat)\n")
    (then_piece o _ _ (head ++ preludes ++ sorts ++ lines ++ params ++ facts ++ locals) told
    (then_piece o _ _ (head ++ preludes ++ sorts ++ lines ++ params ++ facts) locals
    (then_piece o _ _ (head ++ preludes ++ sorts ++ lines ++ params) facts
    (then_piece o _ _ (head ++ preludes ++ sorts ++ lines) params
    (then_piece o _ _ (head ++ preludes ++ sorts) lines
    (then_piece o _ _ (head ++ preludes) sorts
    (then_piece o _ _ head preludes c.in_ok-push_head.ensures
    (c.in_ok-push_preludes.ensures ∙ ap (λ (z : List (List ℕ)). c.push_head.new.out.items ++ flat_map line z) c.as_slice.ensures))
    (c.in_ok-push_sort_lines.ensures ∙ ap (λ (z : List ℕ). c.push_preludes.new.out.items ++ flat_map (smt_sort_line p) z) c.as_slice-2.ensures))
    (c.in_ok-push_symbol_lines.ensures ∙ (λ i. c.push_sort_lines.new.out.items ++ flat_map (smt_symbol_line p (symbols_at s (symbols_are i))) (c.as_slice-4.ensures i))))
    (c.in_ok-push_parameter_lines.ensures ∙ ap (λ (z : List TermId). c.push_symbol_lines.new.out.items ++ smt_parameter_lines p 0 (trees_at s z)) c.as_slice-5.ensures))
    (c.in_ok-push_assertions.ensures ∙ ap (λ (z : List TermId). c.push_parameter_lines.new.out.items ++ flat_map (assertion p) (trees_at s z)) c.as_slice-6.ensures))
    (c.in_ok-push_assertions-2.ensures ∙ ap (λ (z : List TermId). c.push_assertions.new.out.items ++ flat_map (assertion p) (trees_at s z)) c.as_slice-7.ensures))
    c.in_ok-push_goal.ensures) (ok_items c.extend_from_slice.result _ _ _ c.extend_from_slice.ensures.items)

pub returns-in_err-push_head : goal.returns-in_err-push_head
returns-in_err-push_head c = no_ok _ _ c.from_residual.result c.from_residual.ensures.1

pub returns-in_err-push_preludes : goal.returns-in_err-push_preludes
returns-in_err-push_preludes c = no_ok _ _ c.from_residual-in_err-push_preludes.result c.from_residual-in_err-push_preludes.ensures.1

pub returns-in_err-push_sort_lines : goal.returns-in_err-push_sort_lines
returns-in_err-push_sort_lines c = no_ok _ _ c.from_residual-in_err-push_sort_lines.result c.from_residual-in_err-push_sort_lines.ensures.1

pub returns-in_err-push_symbol_lines : goal.returns-in_err-push_symbol_lines
returns-in_err-push_symbol_lines c = no_ok _ _ c.from_residual-in_err-push_symbol_lines.result c.from_residual-in_err-push_symbol_lines.ensures.1

pub returns-in_err-push_parameter_lines : goal.returns-in_err-push_parameter_lines
returns-in_err-push_parameter_lines c = no_ok _ _ c.from_residual-in_err-push_parameter_lines.result c.from_residual-in_err-push_parameter_lines.ensures.1

pub returns-in_err-push_assertions : goal.returns-in_err-push_assertions
returns-in_err-push_assertions c = no_ok _ _ c.from_residual-in_err-push_assertions.result c.from_residual-in_err-push_assertions.ensures.1

pub returns-in_err-push_assertions-2 : goal.returns-in_err-push_assertions-2
returns-in_err-push_assertions-2 c = no_ok _ _ c.from_residual-in_err-push_assertions-2.result c.from_residual-in_err-push_assertions-2.ensures.1

pub returns-in_err-push_goal : goal.returns-in_err-push_goal
returns-in_err-push_goal c = no_ok _ _ c.from_residual-in_err-push_goal.result c.from_residual-in_err-push_goal.ensures.1
