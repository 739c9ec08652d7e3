use Rattle.std.proofs.Common.{below_more, refl}
use Rattle.tasks.specs.trees.Node.{tree_at}
use Rattle.tasks.specs.Valid.{IsGroundFormula}
use Rattle.tasks.specs.Meaning.{task_at}
use Rattle.rules.specs.Meaning.{no_id}
use Rattle.rules.proofs.Sequents.{made_yes}
use Rattle.step_reading.proofs.quick_steps.ready.are_sentences.Goals as goal

pub returns : goal.returns
returns c = λ t. (made_yes (IsGroundFormula (task_at c.args.store.now c.args.task.now)) (tree_at c.args.store.now) c.args.sequent.now no_id c.loop-formula.formula-index c.loop-formula-test.false c.loop-formula.invariant).0 refl

pub loop-formula-preserved : goal.loop-formula-preserved
loop-formula-preserved c = below_more _ _ c.loop-formula.invariant (c.is_sentence.ensures c.if-not-is_sentence.false)
