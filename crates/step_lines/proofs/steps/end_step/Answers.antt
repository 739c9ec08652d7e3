use Rattle.std.proofs.Common.{◌+◌, ℕ, List, take, drop, Some, Option, ap, ◌∙◌}
use Rattle.std.specs.Borrow.{Bor}
use Rattle.trees.specs.Tree.{Tree}
use Rattle.tasks.specs.Meaning.{task_at, trees_at}
use Rattle.tasks.proofs.Growth.{trees_later}
use Rattle.rules.specs.Trees.{StepTree}
use Rattle.rules.specs.Meaning.{rule_at}
use Rattle.step_lines.specs.tree_lines.Words.{LineWord, texts, number, each}
use Rattle.step_lines.specs.tree_lines.Made.{earlier_at}
use Rattle.step_lines.proofs.tree_lines.Making.{slice_left}
use Rattle.step_lines.specs.Steps.{step_by}
use Rattle.step_lines.proofs.Ending.{step_made}
use Rattle.step_lines.proofs.steps.end_step.Goals as goal

pub returns-in-Some-3-clause-step : goal.returns-in-Some-3-clause-step
returns-in-Some-3-clause-step c =
    let s = c.args.store.now in
    let s' = c.words_rule.new.store in
    let x = c.args.x.now in
    let words = c.args.words.now in
    let at = c.in-Some.at in
    let ids = c.args.sequent.items in
    let rule = rw c.in-Some-2.is at c.in_ok-rule.ensures.rule in
    let premises = (rw c.in-Some-3.is at c.in_ok-premises.ensures) ∙ ap (λ (l : List (Bor LineWord)). each number (texts l)) (slice_left (at + 1) words) in
    let mk : List Tree → List ℕ → Option StepTree = λ q p. Some (step_by q (rule_at s' c.in-Some-2.rule) p) in
    ap (λ (q : List Tree). mk q c.from_vec-in-Some-3.result) (ap (trees_at s') c.from_vec.ensures ∙ trees_later s s' c.in_ok-rule.ensures.grows ids c.requires.sequent)
    ∙ ap (mk (trees_at s ids)) c.from_vec-in-Some-3.ensures
    ∙ step_made (task_at s x.task.now) x.table.now (earlier_at s x) (texts words) (texts (take at words)) (texts (drop (at + 1) words)) c.in-Some.ensures.1 c.in-Some.ensures.2 (trees_at s ids) (rule_at s' c.in-Some-2.rule) c.in-Some-3.premises.items rule premises
