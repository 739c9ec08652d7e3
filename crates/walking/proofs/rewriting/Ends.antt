-- What the old task, its rewritten one and the end of that one's part give.
use Rattle.std.proofs.Common.{◌≡◌, ℕ, ◌<◌, List, [], ◌∷◌, ◌++◌, length, get_or, refl, sym, ap, subst, ◌∙◌, arith}
use Rattle.std.proofs.lemmas.List.{append-nil}
use Rattle.tasks.specs.trees.declared.TermId.{TermId}
use Rattle.tasks.specs.trees.Tree.{Tree}
use Rattle.tasks.specs.trees.Node.{tree_at, Grows}
use Rattle.tasks.specs.declared.task.Task.{Task}
use Rattle.tasks.specs.Task.{TaskTree, neg, start}
use Rattle.evidence.specs.Drafts.{DraftTree, Extends, Refutes, IsFormulaAt}
use Rattle.evidence.specs.Stages.{Gives, EndIn, IsOwnTask}
use Rattle.evidence.proofs.Rules.{refutes_later}
use Rattle.evidence.proofs.Formulas.{none_formulas}
use Rattle.evidence.proofs.Lifted.{own_later}
use Rattle.evidence.proofs.task_parts.One.{end_there, end_of_one}
use Rattle.walking.specs.declared.rewriting.formulas.FormulaScope.{FormulaScope}
use Rattle.walking.specs.rewriting.Rewritten.{scoped_task, formulas_equation}
use Rattle.walking.specs.rewriting.Kept.{one_rewritten}
use Rattle.walking.specs.rewriting.Starts.{CanGlueStart, AreLocalImages}
use Rattle.walking.proofs.rewriting.Starts.{ready_later}

pub can_glue : (ready : TaskTree → List Tree → Type 0) → ((t : TaskTree) (s s1 : List Tree) → Grows s s1 → ready t s → ready t s1) → (d d1 : DraftTree) → Extends d d1 → (from : Task) → ready d.task d.trees → IsOwnTask d from
    → (n : TermId) → IsFormulaAt d1 n → tree_at d1.trees n ≡ neg (tree_at d.trees from.goal) → CanGlueStart ready d1 from n
can_glue ready stays d d1 x from r o n f e = record {
  is_ready = ready_later d d1 x ready stays r;
  own = own_later d d1 from x o;
  negated = f;
  is = e ∙ ap neg (ap (λ (t : TaskTree). t.goal) o.is ∙ ap (λ (t : TaskTree). t.goal) (sym x.task));
}

pub no_images : (d : DraftTree) (g : Tree → Tree) → AreLocalImages d g []
no_images d g = record { formulas = none_formulas d; within = omega arith; are = refl }

module _ (sc : FormulaScope) (g : TaskTree → Tree → Tree) (d : DraftTree) (ends : List ℕ) (tasks : List TaskTree) (e : Gives (formulas_equation sc g) d.task tasks) (u : EndIn d ends tasks) where
  one : tasks ≡ scoped_task sc (g d.task) d.task ∷ []
  one = one_rewritten sc g d.task tasks e

  pub scoped_there : 0 < length ends
  scoped_there = end_there d ends tasks (scoped_task sc (g d.task) d.task) one u

  pub scoped_end : (d1 : DraftTree) → Extends d d1 → Refutes d1 (get_or ends 0 0) (start (scoped_task sc (g d1.task) d1.task))
  scoped_end d1 x =
      subst (λ (t : TaskTree). Refutes d1 (get_or ends 0 0) (start (scoped_task sc (g t) t))) (sym x.task)
      (refutes_later d d1 x (get_or ends 0 0) _ (end_of_one d ends tasks (scoped_task sc (g d.task) d.task) one u))

-- the start without images after it
pub start_alone : (d d1 d2 : DraftTree) → Extends d d1 → (k : ℕ) → Refutes d2 k (start d1.task ++ []) → Refutes d2 k (start d.task)
start_alone d d1 d2 x k r = record { within = r.within; is = r.is ∙ append-nil (start d1.task) ∙ ap start x.task }
