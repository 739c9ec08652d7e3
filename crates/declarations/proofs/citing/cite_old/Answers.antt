use Rattle.trees.specs.Node.{tree_at}
use Rattle.tasks.specs.Meaning.{trees_at, task_at}
use Rattle.declarations.proofs.Stage.{old_fact}
use Rattle.declarations.proofs.citing.cite_old.Goals as goal

pub fact_lemma-requires-clause-fact : goal.fact_lemma-requires-clause-fact
fact_lemma-requires-clause-fact g c =
    let d = c.args.draft.now in
    old_fact (g.R.RewriteDeclarations.rule c.args.rule.now) d.task (task_at d.trees c.args.to.now) c.args.name c.old_name-old.result (trees_at d.trees c.args.types.now) (tree_at d.trees c.args.formula) c.requires.stage.among c.old_name-old.ensures c.requires.fact
