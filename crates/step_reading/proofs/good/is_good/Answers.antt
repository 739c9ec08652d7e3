use Rattle.std.proofs.Common.{sym, subst}
use Rattle.std.specs.Prelude.{IfOk, IsTrue, ◌↔◌}
use Rattle.tasks.specs.Meaning.{task_at}
use Rattle.rules.specs.Meaning.{steps_at}
use Rattle.step_lines.specs.declared.thing.MadeThing.{MadeThing}
use Rattle.step_lines.specs.Made.{thing_at}
use Rattle.step_reading.specs.Lines.{IsGood}
use Rattle.step_reading.proofs.good.is_good.Goals as goal

pub returns-in-Type-clause-good : goal.returns-in-Type-clause-good
returns-in-Type-clause-good c =
    let s = c.args.store.now in
    subst (λ (x : MadeThing). IfOk c.is_good_tree.result (λ b. IsTrue b ↔ IsGood (task_at s c.args.x.now.task.now) c.args.x.now.tallest (steps_at s c.args.before.now) (thing_at s x))) (sym c.in-Type.is) c.is_good_tree.ensures.good

pub returns-in-Pattern-clause-good : goal.returns-in-Pattern-clause-good
returns-in-Pattern-clause-good c =
    let s = c.args.store.now in
    subst (λ (x : MadeThing). IfOk c.is_good_tree-in-Pattern.result (λ b. IsTrue b ↔ IsGood (task_at s c.args.x.now.task.now) c.args.x.now.tallest (steps_at s c.args.before.now) (thing_at s x))) (sym c.in-Pattern.is) c.is_good_tree-in-Pattern.ensures.good

pub returns-in-Expression-clause-good : goal.returns-in-Expression-clause-good
returns-in-Expression-clause-good c =
    let s = c.args.store.now in
    subst (λ (x : MadeThing). IfOk c.is_good_tree-in-Expression.result (λ b. IsTrue b ↔ IsGood (task_at s c.args.x.now.task.now) c.args.x.now.tallest (steps_at s c.args.before.now) (thing_at s x))) (sym c.in-Expression.is) c.is_good_tree-in-Expression.ensures.good

pub returns-in-Derived-clause-good : goal.returns-in-Derived-clause-good
returns-in-Derived-clause-good c =
    let s = c.args.store.now in
    subst (λ (x : MadeThing). IfOk c.is_right.result (λ b. IsTrue b ↔ IsGood (task_at s c.args.x.now.task.now) c.args.x.now.tallest (steps_at s c.args.before.now) (thing_at s x))) (sym c.in-Derived.is) c.is_right.ensures.right
