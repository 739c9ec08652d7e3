-- The task without `match`es over a draft: the images that it has, its place in a stage, and its end.
use Rattle.std.proofs.Common.{◌≡◌, ℕ, ◌<◌, zero, suc, List, [], ◌∷◌, length, get_or, All, refl, sym, ap, subst, ◌∙◌, arith}
use Rattle.tasks.specs.trees.Tree.{Tree}
use Rattle.tasks.specs.declared.task.Task.{Task}
use Rattle.tasks.specs.Task.{TaskTree}
use Rattle.tasks.specs.Meaning.{task_at, tasks_at, TaskHeld, TasksHeld}
use Rattle.tasks.specs.Valid.{IsValid}
use Rattle.evidence.specs.Drafts.{DraftTree, Extends, Refutes}
use Rattle.evidence.specs.Stages.{Gives, EndIn, start_of}
use Rattle.evidence.proofs.Rules.{refutes_later}
use Rattle.tr_algebraic.specs.draft_images.Images.{HasImages}
use Rattle.evidence.proofs.task_parts.One.{end_of_one}
use Rattle.tr_match.specs.match_forms.Forms.{without_matches}
use Rattle.tr_match.specs.Kept.{matches_equation}
use Rattle.tr_algebraic.specs.Equation.{plain_task, algebraic_task, algebraic_equation}
use Rattle.tr_algebraic.specs.Kept.{algebraic_one, plain_gives}
use Rattle.tr_algebraic.proofs.Composed.{first_at, first_there}

module _ (d : DraftTree) (to : List Task) (gives : Gives algebraic_equation d.task (tasks_at d.trees to)) where
  one : tasks_at d.trees to ≡ algebraic_task d.task ∷ []
  one = (algebraic_one d.task (tasks_at d.trees to) gives).0

  pub one_there : 0 < length to
  one_there = first_there d.trees to (algebraic_task d.task) one

  pub images_there : (x : Task) → x ≡ get_or to 0 x → TasksHeld d.trees to → HasImages d (without_matches d.task) x
  images_there x q h =
      let f = first_at d.trees to x (algebraic_task d.task) one q h in
      record {
        locals_held = f.0.locals;
        locals = ap (λ (t : TaskTree). t.locals) f.1;
        goal_held = f.0.goal;
        goal = ap (λ (t : TaskTree). t.goal) f.1;
      }

  module _ (d1 : DraftTree) (x : Extends d d1) (valid : IsValid d.task) (plain : List TaskTree) (is : plain ≡ plain_task d.task ∷ []) where
    pub plain_in_stage : Gives matches_equation d1.task plain
    plain_in_stage = subst (λ (t : TaskTree). Gives matches_equation t plain) (sym x.task) (subst (Gives matches_equation d.task) (sym is) (plain_gives d.task (tasks_at d.trees to) valid gives))

    pub plain_ends : (ends : List ℕ) → EndIn d ends (tasks_at d.trees to) → EndIn d1 ends plain
    plain_ends ends e = subst (EndIn d1 ends) (sym is) (record { as_many = e.as_many ∙ ap length one; each = each })
      where
        each : (i : ℕ) → i < 1 → Refutes d1 (get_or ends i 0) (start_of (plain_task d.task ∷ []) i)
        each zero l = refutes_later d d1 x (get_or ends 0 0) _ (end_of_one d ends (tasks_at d.trees to) (algebraic_task d.task) one e)
        each (suc i) l = absurd (omega (arith, l))
