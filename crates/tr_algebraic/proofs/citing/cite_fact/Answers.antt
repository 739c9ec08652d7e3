use Rattle.std.proofs.Common.{◌≡◌, Some, None, ◌∙◌}
use Rattle.tasks.specs.trees.Node.{tree_at}
use Rattle.tasks.specs.Meaning.{trees_at, task_at}
use Rattle.tr_algebraic.specs.declared.algebraic_tasks.origins.PropositionOrigin.TheVariants.{Proposition, Law}
use Rattle.tr_algebraic.proofs.Facts.{origin_is, other_old, image_there, law_there, law_below, none_there}
use Rattle.tr_algebraic.proofs.citing.cite_fact.Goals as goal

pub fact_lemma-requires : goal.fact_lemma-requires
fact_lemma-requires c =
    let d = c.args.draft.now in
    record {
      types_held = c.requires.types_held;
      formula = c.requires.formula;
      fact = other_old d.task (task_at d.trees c.args.to.now) c.requires.stage.own.valid c.requires.stage.among (trees_at d.trees c.args.types.now) (tree_at d.trees c.args.formula) c.args.name c.in_default.not-Proposition c.requires.fact;
    }

pub cite_image-requires-clause-image : goal.cite_image-requires-clause-image
cite_image-requires-clause-image c =
    let d = c.args.draft.now in
    let n = c.in-Some-Proposition in
    let e : c.origin_of.result ≡ Some (Proposition n.number) = cc (n.is, n.field-0-is) in
    image_there d.task (task_at d.trees c.args.to.now) c.requires.stage.own.valid c.requires.stage.among (trees_at d.trees c.args.types.now) (tree_at d.trees c.args.formula) c.in-Proposition.k n.number (rw c.in-Proposition.is at c.requires.fact)
    (origin_is d c.args.from.now c.requires.stage.own c.store.result.now c.as_slice.result.now c.in-Proposition.k c.origin_of.result c.store.ensures c.as_slice.ensures c.origin_of.ensures ∙ e)

pub refute_law-requires-clause-below : goal.refute_law-requires-clause-below
refute_law-requires-clause-below c =
    let d = c.args.draft.now in
    law_below d.task (task_at d.trees c.args.to.now) c.requires.stage.own.valid c.requires.stage.among (trees_at d.trees c.args.types.now) (tree_at d.trees c.args.formula) c.in-Proposition.k (rw c.in-Proposition.is at c.requires.fact)

pub refute_law-requires-clause-shape : goal.refute_law-requires-clause-shape
refute_law-requires-clause-shape c =
    let d = c.args.draft.now in
    let n = c.in-Some-Law in
    let e : c.origin_of.result ≡ Some (Law n.kind) = cc (n.is, n.field-0-is) in
    law_there d.task (task_at d.trees c.args.to.now) c.requires.stage.own.valid c.requires.stage.among (trees_at d.trees c.args.types.now) (tree_at d.trees c.args.formula) c.in-Proposition.k n.kind (rw c.in-Proposition.is at c.requires.fact)
    (origin_is d c.args.from.now c.requires.stage.own c.store.result.now c.as_slice.result.now c.in-Proposition.k c.origin_of.result c.store.ensures c.as_slice.ensures c.origin_of.ensures ∙ e)

pub unreachable-requires : goal.unreachable-requires
unreachable-requires c =
    let d = c.args.draft.now in
    none_there d.task (task_at d.trees c.args.to.now) c.requires.stage.own.valid c.requires.stage.among (trees_at d.trees c.args.types.now) (tree_at d.trees c.args.formula) c.in-Proposition.k (rw c.in-Proposition.is at c.requires.fact)
    (origin_is d c.args.from.now c.requires.stage.own c.store.result.now c.as_slice.result.now c.in-Proposition.k c.origin_of.result c.store.ensures c.as_slice.ensures c.origin_of.ensures ∙ c.in-None.is)
