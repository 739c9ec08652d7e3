use Rattle.tasks.specs.Meaning.{task_at}
use Rattle.rules.specs.Meaning.{steps_at}
use Rattle.std.proofs.lemmas.List.{length-map}
use Rattle.kernel.proofs.Complete.{all_closed, step_right, types_named}
use Rattle.rules.proofs.Sequents.{so, not_so}
use Rattle.kernel.proofs.steps.right_typed_step.Goals as goal
use Rattle.tasks.proofs.Declared.{no}

pub row_holds-requires-clause-tried : goal.row_holds-requires-clause-tried
row_holds-requires-clause-tried c =
    let s = c.args.store.now in
    record {
      look = c.requires.look_held;
      sequent = rw c.as_slice-sequent.ensures c.requires.step_held.sequent;
      closed = all_closed (task_at s c.args.look.now.task.now) s c.as_slice-sequent.result.now (so c.are_sentences.result c.are_sentences.ensures c.if-not-are_sentences.false);
      before = c.requires.before_held;
      earlier = so c.all_earlier.result c.all_earlier.ensures c.if-not-all_earlier.false;
    }

pub returns-then-not-are_types : goal.returns-then-not-are_types
returns-then-not-are_types c =
    let s = c.args.store.now in
    no (λ x. not_so c.are_types.result c.are_types.ensures c.if-not-are_types.true (rw (c.types.ensures, ← types_named s c.args.step.now.rule) x.types))

pub returns : goal.returns
returns c =
    let s = c.args.store.now in
    step_right (task_at s c.args.look.now.task.now) (steps_at s c.args.before.now) s c.args.step.now c.as_slice-sequent.result.now c.types.result.now c.as_slice-premises.result.now c.row_holds.result
    c.as_slice-sequent.ensures c.types.ensures c.as_slice-premises.ensures
    (so c.are_sentences.result c.are_sentences.ensures c.if-not-are_sentences.false)
    (so c.names_right.result c.names_right.ensures c.if-not-names_right.false)
    (so c.are_types.result c.are_types.ensures c.if-not-are_types.false)
    (rw length-map (so c.all_earlier.result c.all_earlier.ensures c.if-not-all_earlier.false))
    c.row_holds.ensures
