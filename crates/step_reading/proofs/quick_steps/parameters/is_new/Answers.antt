use Rattle.std.proofs.Common.{◌≡◌, ℕ, true, false, below_more, sym, ◌∙◌}
use Rattle.tasks.specs.trees.Tree.{Tree}
use Rattle.tasks.specs.trees.Facts.{has_param}
use Rattle.tasks.specs.trees.Node.{tree_at}
use Rattle.rules.specs.Meaning.{no_id}
use Rattle.rules.proofs.Sequents.{made_yes, made_no}
use Rattle.step_reading.proofs.quick_steps.parameters.is_new.Goals as goal

abbrev lacks : ℕ → Tree → Type 0
lacks n a = has_param a n ≡ false

pub has_param-requires-clause-clear : goal.has_param-requires-clause-clear
has_param-requires-clause-clear c = c.loop-formula.invariant.1

pub returns-then-found : goal.returns-then-found
returns-then-found c = made_no (lacks c.args.number) (tree_at c.args.store.now) c.args.sequent.now no_id c.loop-formula.formula-index c.loop-formula-test.true
    (λ e. absurd (let f : true ≡ false = sym c.if-found.true ∙ (c.in_ok-found.ensures.answer ∙ e) in cc))

pub returns : goal.returns
returns c = made_yes (lacks c.args.number) (tree_at c.args.store.now) c.args.sequent.now no_id c.loop-formula.formula-index c.loop-formula-test.false c.loop-formula.invariant.0

pub loop-formula-preserved : goal.loop-formula-preserved
loop-formula-preserved c = (below_more _ _ c.loop-formula.invariant.0 (sym c.in_ok-found.ensures.answer ∙ c.if-found.false), c.in_ok-found.ensures.clear)
