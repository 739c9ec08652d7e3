-- What is made of the task without its `match`es, and faults on the way.
use Rattle.std.proofs.Common.{◌≡◌, ℕ, ◌<◌, length, get_or, Bool, true, false, if◌then◌else◌, List, [], ◌∷◌, Option, Some, None, Result, Ok, Err, refl, sym, ap, subst, ◌∙◌, arith}
use Rattle.tasks.specs.trees.Tree.{Tree}
use Rattle.tasks.specs.declared.declaration.Decl.{Decl}
use Rattle.tasks.specs.declared.task.Task.{Task}
use Rattle.tasks.specs.Task.{TaskTree}
use Rattle.tasks.specs.Meaning.{declarations_at, task_at, tasks_at, TaskHeld, TasksHeld}
use Rattle.tasks.specs.Valid.{IsValid}
use Rattle.evidence.specs.declared.stage.StageFault.{StageFault}
use Rattle.evidence.specs.declared.stage.StageFault.TheVariants as fault
use Rattle.evidence.specs.Stages.{Misplaced, TooLarge, Gives, IsStageFault, stage_answer, stage_equation, limited_gives}
use Rattle.walking.specs.evidence.stage_limits.Limits.{limited, are_small}
use Rattle.tr_match.specs.Kept.{matches_equation, matches_keep}
use Rattle.tr_algebraic.specs.algebraic_tasks.Plain.{task_with_laws}
use Rattle.tr_algebraic.specs.algebraic_tasks.Refused.{refused_from}
use Rattle.tr_algebraic.specs.algebraic_tasks.Kept.{large_after}
use Rattle.tr_algebraic.specs.Equation.{plain_task, algebraic_task, unless_refused, algebraic_equation}

-- what is limited is not misplaced
not_misplaced : (b : Bool) (ts : List TaskTree) (decl : ℕ) → (if b then Ok ts else Err TooLarge) ≡ Err (Misplaced decl) → ⊥
not_misplaced true ts decl e = absurd (cc)
not_misplaced false ts decl e = absurd (cc)

pub misplaced : (t : TaskTree) (decl : ℕ) → Some decl ≡ refused_from 0 t.decls → stage_equation algebraic_equation t ≡ Err (Misplaced decl)
misplaced t decl e = ap (λ (o : Option ℕ). stage_answer (unless_refused o (algebraic_task t))) (sym e)

module _ (t : TaskTree) (none : None ≡ refused_from 0 t.decls) where
  -- the one fault of the first step is one of the whole
  pub plain_fault : (f : StageFault) → IsStageFault (stage_equation matches_equation t) f → IsStageFault (stage_equation algebraic_equation t) f
  plain_fault fault.Memory x = tt
  plain_fault (fault.Misplaced decl) x = absurd (not_misplaced (are_small (plain_task t ∷ [])) (plain_task t ∷ []) decl x)
  plain_fault fault.TooLarge x = ap (λ (o : Option ℕ). stage_answer (unless_refused o (algebraic_task t))) (sym none) ∙ large_after (plain_task t) x

  -- the plain task, which is valid, alone
  pub plain_alone : IsValid t → (ts : List TaskTree) → Gives matches_equation t ts → (u : TaskTree) × (ts ≡ u ∷ []) × IsValid u
  plain_alone valid ts e =
      let one : ts ≡ plain_task t ∷ [] = limited_gives (plain_task t ∷ []) ts e in
      (plain_task t, one, (matches_keep t (plain_task t ∷ []) valid (subst (Gives matches_equation t) one e) 0 (plain_task t) (omega arith)).valid)

  pub is_answer : (ts made : List TaskTree) → Gives matches_equation t ts → ((u : TaskTree) → ts ≡ u ∷ [] → made ≡ task_with_laws u ∷ []) → algebraic_equation t ≡ Ok made
  is_answer ts made e h = ap (λ (o : Option ℕ). unless_refused o (algebraic_task t)) (sym none) ∙ ap (λ (us : List TaskTree). Ok us) (sym (h (plain_task t) (limited_gives (plain_task t ∷ []) ts e)))

-- the first of a list of one
pub first_at : (s : List Tree) (ts : List Task) (x : Task) (u : TaskTree) → tasks_at s ts ≡ u ∷ [] → x ≡ get_or ts 0 x → TasksHeld s ts → TaskHeld s x × (task_at s x ≡ u)
first_at s [] x u e q h = absurd (cc)
first_at s (y ∷ ts) x u e q h = (subst (TaskHeld s) (sym q) (h 0 y (omega arith)), ap (task_at s) q ∙ (let f : task_at s y ≡ u = cc in f))

pub first_there : (s : List Tree) (ts : List Task) (u : TaskTree) → tasks_at s ts ≡ u ∷ [] → 0 < length ts
first_there s [] u e = absurd (cc)
first_there s (x ∷ ts) u e = omega arith

-- the declaration that is refused, by the list that is looked through
pub refused_is : (s : List Tree) (ds items : List Decl) (o : Option ℕ) → items ≡ ds → ((z : List Tree) → o ≡ refused_from 0 (declarations_at z items)) → o ≡ refused_from 0 (declarations_at s ds)
refused_is s ds items o q h = h s ∙ ap (λ (xs : List Decl). refused_from 0 (declarations_at s xs)) q
