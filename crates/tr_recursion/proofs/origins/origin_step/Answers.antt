use Rattle.tasks.specs.trees.Node.{tree_at, trees_at}
use Rattle.tr_recursion.proofs.Equations.{other_fact}
use Rattle.tr_recursion.proofs.origins.origin_step.Goals as goal

pub fact_lemma-requires-clause-fact : goal.fact_lemma-requires-clause-fact
fact_lemma-requires-clause-fact c =
    let d = c.args.draft.now in
    other_fact d.task c.args.old (trees_at d.trees c.args.types.now) (tree_at d.trees c.args.formula) c.in_default.not-Equation c.requires.follows
