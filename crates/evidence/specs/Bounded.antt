-- The tasks that a stage gives are those of the equation, and they are small.
use Rattle.std.specs.Prelude.{◌≡◌, ℕ, List, Result, Ok, Err, refl, true}
use Rattle.std.proofs.Common.{sym, ap, ◌∙◌}
use Rattle.tasks.specs.Task.{TaskTree}
use Rattle.evidence.specs.stage_limits.Limits.{are_small}
use Rattle.evidence.specs.stage_limits.Laws.{limited_gives, limited_small}
use Rattle.evidence.specs.Stages.{TaskEquation, Gives, stage_answer}

pub gives_tasks : (equation : TaskEquation) (t : TaskTree) (ts : List TaskTree)
    → Gives equation t ts → equation t ≡ Ok ts
gives_tasks equation t ts e = by (equation t) refl e
  where
    by : (r : Result (List TaskTree) ℕ) → equation t ≡ r → stage_answer r ≡ Ok ts
        → equation t ≡ Ok ts
    by (Ok us) is q = is ∙ ap (λ (z : List TaskTree). Ok z) (sym (limited_gives us ts q))
    by (Err decl) is q = absurd (cc)

pub gives_small : (equation : TaskEquation) (t : TaskTree) (ts : List TaskTree)
    → Gives equation t ts → are_small ts ≡ true
gives_small equation t ts e = by (equation t) e
  where
    by : (r : Result (List TaskTree) ℕ) → stage_answer r ≡ Ok ts → are_small ts ≡ true
    by (Ok us) q = limited_small us ts q
    by (Err decl) q = absurd (cc)
