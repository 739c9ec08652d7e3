use Rattle.tasks.specs.Meaning.{tasks_at}
use Rattle.tr_discriminate.proofs.Making.{only_there, only_refutes}
use Rattle.tr_discriminate.proofs.discriminate.DiscriminateTransform.glue.Goals as goal

pub bounds-ends-0 : goal.bounds-ends-0
bounds-ends-0 c = only_there c.args.draft.now c.args.ends.now (tasks_at c.args.draft.now.trees c.args.to.now.items) c.requires.gives c.requires.ends

pub returns-clause-refutes : goal.returns-clause-refutes
returns-clause-refutes c = only_refutes c.args.draft.now c.args.ends.now (tasks_at c.args.draft.now.trees c.args.to.now.items) c.requires.gives c.requires.ends
