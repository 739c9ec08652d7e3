use Rattle.std.proofs.Common.{◌≡◌, [], sym, ap, subst, ◌∙◌}
use Rattle.trees.specs.Node.{tree_at}
use Rattle.tasks.specs.Task.{TaskTree}
use Rattle.tasks.specs.Meaning.{task_at}
use Rattle.tr_inline.specs.inlining.images.PatternTerms.{IsTypedPattern}
use Rattle.tr_recursion.proofs.constructor_matches.branches.ask_pattern.Goals as goal

pub ask-requires-clause-pattern : goal.ask-requires-clause-pattern
ask-requires-clause-pattern c =
    let d = c.args.draft.now in
    let look = c.without_index-look.result.task.now in
    let e : c.task.result.now.value ≡ look = cc (c.in_ok-task.ensures.cases, c.deref.ensures, c.without_index-look.ensures.task) in
    let q : d.task ≡ task_at d.trees look = sym c.task.ensures.tree ∙ ap (task_at d.trees) e in
    ([], subst (λ (t : TaskTree). IsTypedPattern t [] (tree_at d.trees c.args.pattern)) q c.requires.pattern)
