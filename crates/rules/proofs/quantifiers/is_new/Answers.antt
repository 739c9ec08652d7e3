use Rattle.std.proofs.Common.{◌≡◌, ℕ, true, false, sym, ◌∙◌}
use Rattle.trees.specs.Tree.{Tree}
use Rattle.trees.specs.Facts.{has_param}
use Rattle.trees.specs.Node.{tree_at}
use Rattle.rules.specs.Meaning.{no_id}
use Rattle.rules.proofs.Sequents.{made_yes, made_no}
use Rattle.rules.proofs.quantifiers.is_new.Goals as goal

abbrev lacks : ℕ → Tree → Type 0
lacks n a = has_param a n ≡ false

pub returns-then-has_param : goal.returns-then-has_param
returns-then-has_param c = made_no (lacks c.args.number) (tree_at c.args.store.now) c.args.sequent.now no_id c.loop-formula.formula-index c.loop-formula-test.true
    (λ e. absurd (let f : true ≡ false = sym (c.if-has_param.true) ∙ (c.has_param.ensures ∙ e) in cc))

pub returns : goal.returns
returns c = made_yes (lacks c.args.number) (tree_at c.args.store.now) c.args.sequent.now no_id c.loop-formula.formula-index c.loop-formula-test.false c.loop-formula.invariant
