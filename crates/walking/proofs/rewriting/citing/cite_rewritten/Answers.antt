use Rattle.tasks.specs.trees.Node.{tree_at}
use Rattle.tasks.specs.Meaning.{trees_at, task_at}
use Rattle.walking.proofs.rewriting.Facts.{is_other, other_fact, proposition_fact}
use Rattle.walking.proofs.rewriting.citing.cite_rewritten.Goals as goal

pub cite_proposition-requires-clause-image : goal.cite_proposition-requires-clause-image
cite_proposition-requires-clause-image g c =
    proposition_fact c.args.draft.now.task (g.F.RewriteFormulas.function c.args.rewrite.now) (task_at c.args.draft.now.trees c.args.to.now) (trees_at c.args.draft.now.trees c.args.types.now) (tree_at c.args.draft.now.trees c.args.formula) c.in-Proposition.number
    (rw c.in-Everywhere.is at c.requires.stage.among) (rw c.in-Proposition.is at c.requires.fact)

pub fact_lemma-requires : goal.fact_lemma-requires
fact_lemma-requires g c = record {
  types_held = c.requires.types_held;
  formula = c.requires.formula;
  fact = other_fact c.args.draft.now.task (g.F.RewriteFormulas.function c.args.rewrite.now) (task_at c.args.draft.now.trees c.args.to.now) (trees_at c.args.draft.now.trees c.args.types.now) (tree_at c.args.draft.now.trees c.args.formula) c.args.name (is_other c.args.name c.in_default.not-Proposition) (rw c.in-Everywhere.is at c.requires.stage.among) c.requires.fact;
}
