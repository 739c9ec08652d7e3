use Rattle.std.proofs.Common.{sym, ◌∙◌}
use Rattle.tasks.specs.Meaning.{task_at}
use Rattle.step_lines.specs.tree_lines.Made.{earlier_at}
use Rattle.step_lines.proofs.Refusing.{pattern_refused, expression_refused}
use Rattle.step_lines.proofs.line.made_by_line.Goals as goal

pub returns-in-None-2-clause-made : goal.returns-in-None-2-clause-made
returns-in-None-2-clause-made c =
    let s = c.args.store.now in
    let x = c.args.x.now in
    pattern_refused (task_at s x.task.now) x.table.now (earlier_at s x) c.line_pattern.new.store c.in_ok-pattern.field-0 c.in-None-2.is c.args.words.now _ c.in-len1-up.len_at_least (sym c.is.ensures ∙ c.if-is.false) (sym c.is-2.ensures ∙ c.if-is-2.true) c.in_ok-pattern.ensures.made

pub returns-in-None-3-clause-made : goal.returns-in-None-3-clause-made
returns-in-None-3-clause-made c =
    let s = c.args.store.now in
    let x = c.args.x.now in
    expression_refused (task_at s x.task.now) x.table.now (earlier_at s x) c.line_expression.new.store c.in_ok-expression.field-0 c.in-None-3.is c.args.words.now _ c.in-len1-up.len_at_least (sym c.is.ensures ∙ c.if-is.false) (sym c.is-2.ensures ∙ c.if-is-2.false) (sym c.is-3.ensures ∙ c.if-is-3.true) c.in_ok-expression.ensures.made
