-- Tasks carried through stages by their equations, or the first refusal: within a stage each task's
-- in turn, and then that the tasks of the stage are too large.
use Rattle.std.specs.Prelude.{ℕ, ◌+◌, List, [], ◌∷◌, ◌++◌, Result, Ok, Err}
use Rattle.tasks.specs.Task.{TaskTree}
use Rattle.evidence.specs.Stages.{Refusal, StageEquation}
use Rattle.evidence.specs.stage_limits.Limits.{limited}

abbrev pub and_then : {A B E : Type 0} → Result A E → (A → Result B E) → Result B E
and_then (Ok a) f = f a
and_then (Err e) f = Err e

abbrev pub map_ok : {A B E : Type 0} → (A → B) → Result A E → Result B E
map_ok f (Ok a) = Ok (f a)
map_ok f (Err e) = Err e

-- the tasks that tasks become, in order
abbrev pub all_tasks : StageEquation → List TaskTree → Result (List TaskTree) Refusal
all_tasks equation [] = Ok []
all_tasks equation (t ∷ ts) =
    and_then (equation t) (λ us. map_ok (λ vs. us ++ vs) (all_tasks equation ts))

-- one stage; its tasks aren't too large, each and all together
abbrev pub carried_once : StageEquation → List TaskTree → Result (List TaskTree) Refusal
carried_once equation ts = and_then (all_tasks equation ts) limited

-- the refusal of a stage, by its number
pub record StageRefusal : Type 0 where
  pub stage : ℕ
  pub refusal : Refusal

abbrev pub at_stage : {A : Type 0} → ℕ → Result A Refusal → Result A StageRefusal
at_stage n (Ok a) = Ok a
at_stage n (Err r) = Err (record { stage = n; refusal = r })

-- stages in order, of which the first has this number
abbrev pub carried : List StageEquation → ℕ → List TaskTree → Result (List TaskTree) StageRefusal
carried [] n ts = Ok ts
carried (equation ∷ equations) n ts =
    and_then (at_stage n (carried_once equation ts)) (carried equations (n + 1))

-- a task carried through stages, the first of which has number 0
abbrev pub carried_task : List StageEquation → TaskTree → Result (List TaskTree) StageRefusal
carried_task equations t = carried equations 0 (t ∷ [])
