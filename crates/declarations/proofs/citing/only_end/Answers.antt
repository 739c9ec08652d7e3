use Rattle.tasks.specs.Meaning.{tasks_at}
use Rattle.declarations.proofs.Stage.{end_there, end_refutes}
use Rattle.declarations.proofs.citing.only_end.Goals as goal

pub bounds-ends-0 : goal.bounds-ends-0
bounds-ends-0 g c = end_there (g.R.RewriteDeclarations.rule c.args.rule.now) c.args.draft.now c.args.ends.now (tasks_at c.args.draft.now.trees c.args.to.now.items) c.requires.gives c.requires.ends

pub returns : goal.returns
returns g c = end_refutes (g.R.RewriteDeclarations.rule c.args.rule.now) c.args.draft.now c.args.ends.now (tasks_at c.args.draft.now.trees c.args.to.now.items) c.requires.gives c.requires.ends
