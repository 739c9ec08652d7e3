use Rattle.std.proofs.Common.{sym, ap, subst, ◌∙◌}
use Rattle.tasks.specs.trees.Node.{tree_at}
use Rattle.tasks.specs.declared.task.Task.{Task}
use Rattle.tasks.specs.Meaning.{task_at}
use Rattle.tasks.specs.Vocabulary.{of_task}
use Rattle.tasks.specs.Valid.{IsValid}
use Rattle.walking.specs.rule_rewriting.Rules.{HasTypingSomewhere}
use Rattle.tr_match.specs.match_forms.Forms.{match_rule}
use Rattle.tr_match.proofs.matches.MatchesTaskRule.at_node.Goals as goal

pub match_node-requires-clause-look : goal.match_node-requires-clause-look
match_node-requires-clause-look g c = c.without_index-look.ensures.held (g.G.Grow.trees c.args.g.now) c.requires.task.held

pub match_node-requires-clause-valid : goal.match_node-requires-clause-valid
match_node-requires-clause-valid g c = subst (λ (k : Task). IsValid (task_at (g.G.Grow.trees c.args.g.now) k)) (sym c.without_index-look.ensures.task) c.requires.task.valid

pub match_node-requires-clause-typed : goal.match_node-requires-clause-typed
match_node-requires-clause-typed g c =
    let s = g.G.Grow.trees c.args.g.now in
    subst (λ (k : Task). HasTypingSomewhere (of_task (task_at s k)) (tree_at s c.args.e)) (sym c.without_index-look.ensures.task) c.requires.typed

pub returns-clause-tree : goal.returns-clause-tree
returns-clause-tree g c =
    let s = g.G.Grow.trees c.args.g.now in
    c.in_ok-made.ensures.tree ∙ ap (λ (k : Task). match_rule (task_at s k) (tree_at s c.args.e)) c.without_index-look.ensures.task
