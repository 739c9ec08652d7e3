use Rattle.tasks.specs.trees.Node.{tree_at}
use Rattle.tr_discriminate.proofs.Searching.{origin_here, origin_fact}
use Rattle.tr_discriminate.proofs.citing.cite_origin.Goals as goal

pub origin_from-requires-clause-origin : goal.origin_from-requires-clause-origin
origin_from-requires-clause-origin c =
    let d = c.args.draft.now in
    rw c.store.ensures (origin_here d c.args.from.now c.requires.own c.as_slice.result.now c.as_slice.ensures (tree_at d.trees c.args.formula) c.requires.origin)

pub fact_lemma-requires-clause-fact : goal.fact_lemma-requires-clause-fact
fact_lemma-requires-clause-fact c =
    let d = c.args.draft.now in
    origin_fact d c.args.from.now c.requires.own c.as_slice.result.now c.as_slice.ensures c.args.formula c.requires.formula c.in_ok-origin.origin.place c.in_ok-origin.origin.types.items c.deref.result.now c.deref.ensures.value (rw c.store.ensures at c.in_ok-origin.ensures.there) (rw c.store.ensures at c.in_ok-origin.ensures.types)
