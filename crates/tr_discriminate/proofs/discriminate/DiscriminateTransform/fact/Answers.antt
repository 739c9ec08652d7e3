use Rattle.std.proofs.Common.{subst}
use Rattle.tasks.specs.declared.facts.Fact.{Fact}
use Rattle.tasks.specs.trees.Node.{tree_at}
use Rattle.tasks.specs.Meaning.{trees_at, task_at}
use Rattle.evidence.specs.Facts.{IsFact}
use Rattle.tr_discriminate.proofs.Origins.{origin, other_fact}
use Rattle.tr_discriminate.proofs.discriminate.DiscriminateTransform.fact.Goals as goal

pub cite_origin-requires-clause-origin : goal.cite_origin-requires-clause-origin
cite_origin-requires-clause-origin c =
    let d = c.args.draft.now in
    let types = trees_at d.trees c.args.types.now in
    let e = tree_at d.trees c.args.formula in
    let u = task_at d.trees c.args.to.now in
    origin d.task c.requires.stage.own.valid u c.requires.stage.among types e _ (subst (λ (n : Fact). IsFact d.task u n types e) c.in-Proposition.is c.requires.fact)

pub fact_lemma-requires-clause-fact : goal.fact_lemma-requires-clause-fact
fact_lemma-requires-clause-fact c =
    let d = c.args.draft.now in
    other_fact d.task c.requires.stage.own.valid (task_at d.trees c.args.to.now) c.requires.stage.among (trees_at d.trees c.args.types.now) (tree_at d.trees c.args.formula) c.args.name c.in_default.not-Proposition c.requires.fact
