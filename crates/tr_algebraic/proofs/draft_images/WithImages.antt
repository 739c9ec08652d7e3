-- The task with images, made of its parts over a draft.
use Rattle.std.proofs.Common.{◌≡◌, List, map, All, sym, ap, subst, ◌∙◌}
use Rattle.tasks.specs.trees.declared.TermId.{TermId}
use Rattle.tasks.specs.trees.Tree.{Tree}
use Rattle.tasks.specs.trees.Node.{tree_at, Holds}
use Rattle.tasks.proofs.trees.Nodes.{Grows_refl}
use Rattle.tasks.specs.declared.declaration.Decl.{Decl}
use Rattle.tasks.specs.declared.task.Task.{Task}
use Rattle.tasks.specs.Task.{TaskTree}
use Rattle.tasks.specs.Meaning.{trees_at, declarations_at, task_at, DeclHeld}
use Rattle.tasks.specs.Valid.{IsValid}
use Rattle.evidence.specs.Drafts.{DraftTree, AddsTrees}
use Rattle.evidence.specs.Stages.{IsOwnTask}
use Rattle.evidence.specs.task_parts.Parts.{task_with}
use Rattle.walking.specs.evidence.changed_tasks.Changed.{changed_declarations, changed_task}
use Rattle.walking.proofs.rewriting.Tasks.{changed_made}
use Rattle.walking.specs.rule_rewriting.Rules.{IsValidTaskIn}
use Rattle.tr_algebraic.specs.draft_images.Images.{HasImages}

pub can_image : (d : DraftTree) (from : Task) → IsOwnTask d from → IsValidTaskIn d.trees from
can_image d from own = record { held = own.held; valid = subst IsValid (sym own.is) own.valid; is_ready = tt }

module _ (d d1 : DraftTree) (x : AddsTrees d d1) (from to : Task) (own : IsOwnTask d from) (g : TaskTree → Tree → Tree) (h : HasImages d (g d.task) to) (decls : List Decl) (held : All (DeclHeld d1.trees) decls)
    (are : declarations_at d1.trees decls ≡ changed_declarations (g (task_at d.trees from)) (task_at d.trees from).decls) where
  pub made_changed : (params locals : List TermId) → params ≡ from.params → locals ≡ to.locals → (made : TaskTree) → made ≡ task_with (task_at d1.trees from) (declarations_at d1.trees decls) (trees_at d1.trees params) (trees_at d1.trees locals) (tree_at d1.trees to.goal)
      → made ≡ changed_task (g d.task) d.task
  made_changed params locals p l made e =
      let own_task = own.is in
      changed_made g d.trees from own.held d.trees d1.trees (Grows_refl d.trees) x.trees to.goal h.goal_held (h.goal ∙ ap (λ (t : TaskTree). g t t.goal) (sym own_task)) locals (subst (All (Holds d.trees)) (sym l) h.locals_held)
      (ap (trees_at d.trees) l ∙ h.locals ∙ ap (λ (t : TaskTree). map (g t) t.locals) (sym own_task)) params p decls held are made e ∙ ap (λ (t : TaskTree). changed_task (g t) t) own_task
