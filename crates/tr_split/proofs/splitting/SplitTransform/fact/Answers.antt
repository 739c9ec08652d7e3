use Rattle.tasks.specs.trees.Node.{tree_at}
use Rattle.tasks.specs.Meaning.{trees_at, task_at}
use Rattle.tr_split.proofs.parts.Glued.{fact_kept}
use Rattle.tr_split.proofs.splitting.SplitTransform.fact.Goals as goal

pub fact_lemma-requires-clause-fact : goal.fact_lemma-requires-clause-fact
fact_lemma-requires-clause-fact c =
    let d = c.args.draft.now in
    let a = c.requires.stage.among in
    fact_kept d.task (task_at d.trees c.args.to.now) c.args.name (trees_at d.trees c.args.types.now) (tree_at d.trees c.args.formula)
    (record { tasks = a.tasks; is = a.is; place = a.place; within = a.within; there = a.there }) c.requires.fact

pub fact_lemma-requires-clause-types_held : goal.fact_lemma-requires-clause-types_held
fact_lemma-requires-clause-types_held c = c.requires.types_held

pub fact_lemma-requires-clause-formula : goal.fact_lemma-requires-clause-formula
fact_lemma-requires-clause-formula c = c.requires.formula

pub returns-clause-refutes : goal.returns-clause-refutes
returns-clause-refutes c = c.fact_lemma.ensures.refutes

pub returns-clause-grows : goal.returns-clause-grows
returns-clause-grows c = c.fact_lemma.ensures.grows
