use Rattle.std.proofs.Common.{◌≡◌, sym, ap, subst, ◌∙◌}
use Rattle.tasks.specs.trees.Node.{tree_at}
use Rattle.tasks.specs.Task.{TaskTree}
use Rattle.tasks.specs.Vocabulary.{of_task}
use Rattle.tasks.specs.Meaning.{task_at}
use Rattle.walking.specs.rule_rewriting.Rules.{HasTypingSomewhere}
use Rattle.tr_match.proofs.linking.form_of.Goals as goal

pub match_node-requires-clause-typed : goal.match_node-requires-clause-typed
match_node-requires-clause-typed c =
    let d = c.args.draft.now in
    let look = c.without_index-look.result.task.now in
    let e : c.task.result.now.value ≡ look = cc (c.in_ok-task.ensures.cases, c.deref.ensures, c.without_index-look.ensures.task) in
    let q : d.task ≡ task_at d.trees look = sym c.task.ensures.tree ∙ ap (task_at d.trees) e in
    subst (λ (t : TaskTree). HasTypingSomewhere (of_task t) (tree_at d.trees c.args.e)) q c.requires.typed
