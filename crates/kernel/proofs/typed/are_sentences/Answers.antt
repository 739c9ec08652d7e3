use Rattle.std.proofs.Common.{below_more, refl}
use Rattle.trees.specs.Node.{tree_at}
use Rattle.tasks.specs.Valid.{IsGroundFormula}
use Rattle.tasks.specs.Meaning.{task_at}
use Rattle.rules.specs.Meaning.{no_id}
use Rattle.rules.proofs.Sequents.{made_yes, made_no, not_so}
use Rattle.kernel.proofs.typed.are_sentences.Goals as goal

pub returns-then-not-is_sentence : goal.returns-then-not-is_sentence
returns-then-not-is_sentence c = made_no (IsGroundFormula (task_at c.args.store.now c.args.task.now)) (tree_at c.args.store.now) c.args.sequent.now no_id c.loop-formula.formula-index c.loop-formula-test.true
    (not_so c.is_sentence.result c.is_sentence.ensures c.if-not-is_sentence.true)

pub returns : goal.returns
returns c = made_yes (IsGroundFormula (task_at c.args.store.now c.args.task.now)) (tree_at c.args.store.now) c.args.sequent.now no_id c.loop-formula.formula-index c.loop-formula-test.false c.loop-formula.invariant

pub loop-formula-preserved : goal.loop-formula-preserved
loop-formula-preserved c = below_more _ _ c.loop-formula.invariant (c.if-not-is_sentence.ensures.0 refl)
