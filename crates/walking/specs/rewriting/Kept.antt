-- The tasks that rewriting gives are valid, and declare the same.
use Rattle.std.specs.Prelude.{◌≡◌, Bool, true, false, ◌&&◌, ◌≤◌, nat_le, ℕ, List, [], ◌∷◌, All, Contains, refl}
use Rattle.std.proofs.Common.{inl, inr, sym, subst, ◌∙◌}
use Rattle.std.proofs.lemmas.Bool.Decides.{leb_tells}
use Rattle.tasks.specs.trees.Tree.{Tree}
use Rattle.tasks.specs.Task.{TaskTree, made, nodes}
use Rattle.tasks.specs.Roles.{role}
use Rattle.tasks.specs.Copying.{with_goal}
use Rattle.tasks.specs.Vocabulary.{of_task}
use Rattle.tasks.specs.Valid.{IsValid}
use Rattle.evidence.specs.stage_limits.Limits.{are_small}
use Rattle.evidence.specs.Stages.{Gives, Keeps, limited_gives}
use Rattle.evidence.specs.Bounded.{gives_small}
use Rattle.evidence.specs.task_parts.Kept.{one_keeps}
use Rattle.evidence.specs.changed_tasks.Changed.{changed_task, KeepsFormulas}
use Rattle.evidence.proofs.ChangedTasks.{made_changed, role_changed, changed_valid, goal_changed_valid}
use Rattle.walking.specs.declared.rewriting.formulas.FormulaScope.{FormulaScope}
use Rattle.walking.specs.declared.rewriting.formulas.FormulaScope.TheVariants as scope
use Rattle.walking.specs.rewriting.Rewritten.{scoped_task, formulas_equation}

small_nodes : (n m k : ℕ) → ((nat_le n 1048576 && nat_le m 2000) && true) && nat_le k 8388608 ≡ true
    → n ≤ 1048576
small_nodes n m k e = by (nat_le n 1048576) refl e
  where
    by : (b : Bool) → nat_le n 1048576 ≡ b
        → ((b && nat_le m 2000) && true) && nat_le k 8388608 ≡ true → n ≤ 1048576
    by true q x = elim (leb_tells n 1048576)
        [ inl p ↦ p.1 | inr p ↦ absurd (let r : true ≡ false = sym q ∙ p.0 in cc) ]
    by false q x = absurd (cc)

module _ (g : Tree → Tree) (t : TaskTree) (keeps : KeepsFormulas (of_task t) g)
    (valid : IsValid t) where
  task_kept : (sc : FormulaScope) → nodes (scoped_task sc g t) ≤ 1048576
      → Keeps t (scoped_task sc g t)
  task_kept scope.Everywhere l = record {
    declared = record {
      symbols = refl;
      ints = refl;
      rigid = refl;
      made = λ k. let e = made_changed g t.decls in
          (subst (λ (z : List ℕ). Contains z k) e, subst (λ (z : List ℕ). Contains z k) (sym e));
      groups = λ k r. sym (role_changed g t k);
    };
    valid = changed_valid g t keeps valid l;
  }
  task_kept scope.Goal l = record {
    declared = record {
      symbols = refl;
      ints = refl;
      rigid = refl;
      made =
          λ k. (λ x. x, λ x. x);
      groups = λ k r. refl;
    };
    valid = goal_changed_valid g t keeps valid l;
  }

-- The one task of the equation.
pub one_rewritten : (sc : FormulaScope) (g : TaskTree → Tree → Tree) (t : TaskTree)
    (ts : List TaskTree) → Gives (formulas_equation sc g) t ts → ts ≡ scoped_task sc (g t) t ∷ []
one_rewritten sc g t ts e = limited_gives (scoped_task sc (g t) t ∷ []) ts e

pub rewritten_keeps : (sc : FormulaScope) (g : TaskTree → Tree → Tree)
    → ((t : TaskTree) → IsValid t → KeepsFormulas (of_task t) (g t))
    → (t : TaskTree) (ts : List TaskTree) → IsValid t → Gives (formulas_equation sc g) t ts
    → All (Keeps t) ts
rewritten_keeps sc g keeps t ts valid e =
    let u = scoped_task sc (g t) t in
    let one = one_rewritten sc g t ts e in
    let small : are_small (u ∷ []) ≡ true =
    subst (λ (us : List TaskTree). are_small us ≡ true) one
    (gives_small (formulas_equation sc g) t ts e) in
    one_keeps t u ts one (task_kept (g t) t (keeps t valid) valid sc
    (small_nodes (nodes u) _ _ small))
