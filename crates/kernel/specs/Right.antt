-- What a right step and a derivation are (tableau calculus on left-sided sequents).
use Rattle.std.specs.Prelude.{◌≡◌, ◌⊎◌, ℕ, ◌<◌, ◌≤◌, ◌-◌, List, map, length, take, slice_get, All, IsSomeAnd}
use Rattle.trees.specs.declared.Sort.TheVariants.{Term, Formula}
use Rattle.trees.specs.Tree.{Tree}
use Rattle.trees.specs.Sorts.{sort_of}
use Rattle.trees.specs.Facts.{Each}
use Rattle.tasks.specs.Task.{TaskTree, start}
use Rattle.tasks.specs.Typing.{IsTyped}
use Rattle.tasks.specs.Valid.{IsGround, IsGroundFormula, IsTypeOver}
use Rattle.rules.specs.Trees.{StepTree, rule_trees, rule_types, step_or, sequents}
use Rattle.rules.specs.Rows.{IsRuleRow}

-- a term or formula of the task: closed, typed in it and free of schematic types; parameters of any
-- type may be in it
pub record IsGroundExpression (t : TaskTree) (e : Tree) : Type 0 where
  pub sort : (sort_of e ≡ Term) ⊎ (sort_of e ≡ Formula)
  pub typed : IsTyped t e
  pub ground : IsGround e

-- a right step over the steps before it
pub record IsRight (t : TaskTree) (before : List StepTree) (step : StepTree) : Type 0 where
  pub formulas : All (IsGroundFormula t) step.sequent
  -- the terms and formulas that the rule names, and its types
  pub trees : Each (IsGroundExpression t) (rule_trees step.rule)
  pub types : All (IsTypeOver t 0) (rule_types step.rule)
  pub earlier : All (λ k. k < length before) step.premises
  pub row : IsRuleRow t step.sequent step.rule (sequents before step.premises)

-- each step is right over those before it
abbrev pub AreRight : TaskTree → List StepTree → Type 0
AreRight t steps = (k : ℕ) → k < length steps → IsRight t (take k steps) (step_or steps k)

-- there is a last step, and its sequent is the task's start
abbrev pub last_starts : TaskTree → List StepTree → Type 0
last_starts t steps =
    IsSomeAnd (slice_get (map (λ st. st.sequent) steps) (length steps - 1)) (λ q. q ≡ start t)

-- the steps derive the task
pub record Closes (t : TaskTree) (steps : List StepTree) : Type 0 where
  pub right : AreRight t steps
  pub starts : last_starts t steps

-- the least step that isn't right, or the number of steps where none is wrong and the last hasn't
-- the start
pub record IsWrongAt (t : TaskTree) (steps : List StepTree) (k : ℕ) : Type 0 where
  pub within : k ≤ length steps
  pub right_before : (j : ℕ) → j < k → IsRight t (take j steps) (step_or steps j)
  pub wrong : k < length steps → IsRight t (take k steps) (step_or steps k) → ⊥
  pub unfinished : k ≡ length steps → last_starts t steps → ⊥
