use Rattle.std.proofs.Common.{◌≡◌, ◌+◌, List, take, drop, All, IfOk, IfSome, Option, sym, ap, subst, ◌∙◌}
use Rattle.std.specs.Option.{option_map}
use Rattle.std.specs.Borrow.{Bor}
use Rattle.trees.specs.declared.TermId.{TermId}
use Rattle.trees.specs.Node.{Holds}
use Rattle.tasks.specs.Meaning.{task_at, trees_at}
use Rattle.rules.specs.Trees.{StepTree}
use Rattle.rules.specs.Meaning.{step_at}
use Rattle.step_lines.specs.tree_lines.Words.{LineWord, texts}
use Rattle.step_lines.specs.tree_lines.Made.{earlier_at}
use Rattle.step_lines.proofs.tree_lines.Making.{slice_left, each_trees, each_held}
use Rattle.step_lines.specs.Steps.{step_ended}
use Rattle.step_lines.proofs.Ending.{sequent_made, no_sequent}
use Rattle.step_lines.proofs.steps.line_step.Goals as goal

pub end_step-requires-clause-sequent : goal.end_step-requires-clause-sequent
end_step-requires-clause-sequent c =
    let s = c.args.store.now in
    let ids = rw c.in-Some-2.is at c.in_ok-sequent.ensures in
    subst (λ (o : Option (List TermId)). IfSome o (λ l. All (Holds s) l)) (sym ids) (each_held s c.args.x.now.expressions.now (texts (take c.in-Some.at c.args.words.now)) c.requires.expressions)

pub returns-in-Some-2-clause-step : goal.returns-in-Some-2-clause-step
returns-in-Some-2-clause-step c =
    let s = c.args.store.now in
    let x = c.args.x.now in
    let t = task_at s x.task.now in
    let r = earlier_at s x in
    let words = c.args.words.now in
    let at = c.in-Some.at in
    let q = trees_at s c.in-Some-2.sequent.items in
    let ids = rw c.in-Some-2.is at c.in_ok-sequent.ensures in
    let trees = ap (option_map (trees_at s)) ids ∙ sym (each_trees s x.expressions.now (texts (take at words))) in
    let e = ap (λ (l : List (Bor LineWord)). step_ended t x.table.now r q (texts l)) (slice_left (at + 1) words)
    ∙ sequent_made t x.table.now r (texts words) (texts (take at words)) (texts (drop (at + 1) words)) c.in-Some.ensures.1 c.in-Some.ensures.2 q trees in
    subst (λ (m : Option StepTree). IfOk c.end_step.result (λ o. option_map (step_at c.end_step.new.store) o ≡ m)) e c.end_step.ensures.step

pub returns-in-None-clause-step : goal.returns-in-None-clause-step
returns-in-None-clause-step c =
    let s = c.args.store.now in
    let x = c.args.x.now in
    let words = c.args.words.now in
    let at = c.in-Some.at in
    let ids = rw c.in-None.is at c.in_ok-sequent.ensures in
    let trees = ap (option_map (trees_at s)) ids ∙ sym (each_trees s x.expressions.now (texts (take at words))) in
    no_sequent (task_at s x.task.now) x.table.now (earlier_at s x) (texts words) (texts (take at words)) (texts (drop (at + 1) words)) c.in-Some.ensures.1 c.in-Some.ensures.2 trees
