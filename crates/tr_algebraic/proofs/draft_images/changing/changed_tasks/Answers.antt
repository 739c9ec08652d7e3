use Rattle.tasks.specs.Task.{TaskTree}
use Rattle.tasks.specs.Meaning.{task_at}
use Rattle.images.specs.Images.{image}
use Rattle.evidence.proofs.task_parts.One.{one_tree}
use Rattle.tr_algebraic.proofs.draft_images.WithImages.{can_image, made_changed}
use Rattle.tr_algebraic.proofs.draft_images.changing.changed_tasks.Goals as goal

pub image_decls-requires : goal.image_decls-requires
image_decls-requires g c = record { can = can_image c.args.draft.now c.args.from.now c.requires.own }

pub returns-clause-tasks : goal.returns-clause-tasks
returns-clause-tasks g c =
    let d = c.args.draft.now in
    let d1 = c.image_decls.new.draft in
    one_tree d1.trees c.in_ok-tasks.tasks.items c.in_ok-made.made _ c.in_ok-tasks.ensures
    (made_changed d d1 c.in_ok-decls.ensures.grows c.args.from.now c.args.to.now c.requires.own (λ (t : TaskTree). image (g.R.TaskRule.rule c.args.rule.now t)) c.requires.images c.in_ok-decls.decls c.in_ok-decls.ensures.held c.in_ok-decls.ensures.decls
    c.in_ok-params.params c.in_ok-locals.locals c.in_ok-params.ensures.cases c.in_ok-locals.ensures.cases (task_at d1.trees c.in_ok-made.made) (c.in_ok-made.ensures.tree d1.trees))
