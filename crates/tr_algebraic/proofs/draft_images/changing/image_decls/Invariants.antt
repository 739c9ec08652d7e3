use Rattle.std.proofs.Common.{◌≡◌, ◌++◌, map, drop, All}
use Rattle.tasks.specs.Task.{DeclarationTree}
use Rattle.tasks.specs.Meaning.{declarations_at, task_at, DeclHeld}
use Rattle.images.specs.Images.{image}
use Rattle.evidence.specs.Drafts.{AddsTrees}
use Rattle.walking.specs.evidence.changed_tasks.Changed.{with_formula}
use Rattle.tr_algebraic.proofs.draft_images.changing.image_decls.Given as goal

abbrev pub invariant-loop-decl : goal.invariant-loop-decl
invariant-loop-decl g l = record {
  grows : AddsTrees l.fn.draft l.draft;
  held : All (DeclHeld l.draft.trees) l.decls;
  made : declarations_at l.draft.trees l.decls ++ map (λ (d : DeclarationTree). with_formula (image (g.R.TaskRule.rule l.rule (task_at l.fn.draft.trees l.task))) d d.body) (declarations_at l.fn.draft.trees (drop l.decl-index l.task.decls))
      ≡ map (λ (d : DeclarationTree). with_formula (image (g.R.TaskRule.rule l.rule (task_at l.fn.draft.trees l.task))) d d.body) (declarations_at l.fn.draft.trees l.task.decls);
}
