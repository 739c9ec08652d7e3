-- What the lines of a step file mean, and its first wrong line.
use Rattle.std.specs.Prelude.{◌≡◌, ℕ, ◌≤◌, ◌+◌, zero, suc, List, [], ◌∷◌, ◌++◌, Option, IsSomeAnd}
use Rattle.std.specs.Option.{ForSome}
use Rattle.tasks.specs.trees.Tree.{Tree, height}
use Rattle.tasks.specs.Task.{TaskTree}
use Rattle.rules.specs.Trees.{StepTree}
use Rattle.kernel.specs.Right.{IsRight, last_starts}
use Rattle.kernel.specs.Open.{OpenIn}
use Rattle.name_tables.specs.declared.name_entries.names.NameEntry.{NameEntry}
use Rattle.step_lines.specs.tree_lines.Lines.{Earlier}
use Rattle.step_lines.specs.Steps.{Thing, TypeOf, PatternOf, ExpressionOf, StepOf, line_made}
use Rattle.step_reading.specs.Words.{lines_of, words_in_line}

-- what the lines so far have made
pub record Reading : Type 0 where
  pub earlier : Earlier
  pub steps : List StepTree

abbrev pub reading_of : List Tree → List Tree → List Tree → List StepTree → Reading
reading_of types patterns expressions steps =
    record {
      earlier = record { types = types; patterns = patterns; expressions = expressions };
      steps = steps;
    }

abbrev pub nothing_read : Reading
nothing_read = reading_of [] [] [] []

-- what a line makes, where it has a form and what it refers to is there
abbrev pub line_thing : TaskTree → List NameEntry → Earlier → List ℕ → Option Thing
line_thing t names r line = line_made t names r (words_in_line line)

-- a tree of a line is typed as far as it goes, and no taller than the tallest
pub record IsGoodTree (t : TaskTree) (tallest : Option ℕ) (e : Tree) : Type 0 where
  pub typed : OpenIn t e
  pub low : ForSome tallest (λ n. height e ≤ n)

-- so is the tree of a line; a step is right over the steps before it
abbrev pub IsGood : TaskTree → Option ℕ → List StepTree → Thing → Type 0
IsGood t tallest before (TypeOf e) = IsGoodTree t tallest e
IsGood t tallest before (PatternOf e) = IsGoodTree t tallest e
IsGood t tallest before (ExpressionOf e) = IsGoodTree t tallest e
IsGood t tallest before (StepOf st) = IsRight t before st

abbrev pub reading_with : Reading → Thing → Reading
reading_with r (TypeOf e) =
    reading_of (r.earlier.types ++ e ∷ []) r.earlier.patterns r.earlier.expressions r.steps
reading_with r (PatternOf e) =
    reading_of r.earlier.types (r.earlier.patterns ++ e ∷ []) r.earlier.expressions r.steps
reading_with r (ExpressionOf e) =
    reading_of r.earlier.types r.earlier.patterns (r.earlier.expressions ++ e ∷ []) r.steps
reading_with r (StepOf st) =
    reading_of r.earlier.types r.earlier.patterns r.earlier.expressions (r.steps ++ st ∷ [])

-- a right line
abbrev pub LineIsRight : TaskTree → List NameEntry → Option ℕ → Reading → List ℕ → Type 0
LineIsRight t names tallest r line =
    IsSomeAnd (line_thing t names r.earlier line) (IsGood t tallest r.steps)

-- all lines are right and the last step has the task's start, and these are the steps
abbrev pub AreRead : TaskTree → List NameEntry → Option ℕ → Reading → List (List ℕ)
    → List StepTree → Type 0
AreRead t names tallest r [] steps = (steps ≡ r.steps) × last_starts t r.steps
AreRead t names tallest r (line ∷ lines) steps =
    IsSomeAnd (line_thing t names r.earlier line)
    (λ x. IsGood t tallest r.steps x × AreRead t names tallest (reading_with r x) lines steps)

-- the least wrong line, counted from 0, or the number of lines where all are right and the last
-- step hasn't the start
abbrev pub IsWrongLine : TaskTree → List NameEntry → Option ℕ → Reading → List (List ℕ) → ℕ → Type 0
IsWrongLine t names tallest r [] k = (k ≡ 0) × (last_starts t r.steps → ⊥)
IsWrongLine t names tallest r (line ∷ lines) zero = LineIsRight t names tallest r line → ⊥
IsWrongLine t names tallest r (line ∷ lines) (suc k) =
    IsSomeAnd (line_thing t names r.earlier line)
    (λ x. IsGood t tallest r.steps x × IsWrongLine t names tallest (reading_with r x) lines k)

-- a file whose steps derive the task
abbrev pub StepsOf : TaskTree → List NameEntry → Option ℕ → List ℕ → List StepTree → Type 0
StepsOf t names tallest bytes steps = AreRead t names tallest nothing_read (lines_of bytes) steps

-- the first wrong line of a file, counted from 1
abbrev pub FirstWrong : TaskTree → List NameEntry → Option ℕ → List ℕ → ℕ → Type 0
FirstWrong t names tallest bytes line =
    (k : ℕ) × (line ≡ k + 1) × IsWrongLine t names tallest nothing_read (lines_of bytes) k

-- all lines are right, and this is what they make of what was read before
abbrev pub LinesMake : TaskTree → List NameEntry → Option ℕ → Reading → List (List ℕ)
    → Reading → Type 0
LinesMake t names tallest r [] made = made ≡ r
LinesMake t names tallest r (line ∷ lines) made =
    IsSomeAnd (line_thing t names r.earlier line)
    (λ x. IsGood t tallest r.steps x × LinesMake t names tallest (reading_with r x) lines made)

-- the least wrong one of these lines, counted from 0
abbrev pub IsWrongAmong : TaskTree → List NameEntry → Option ℕ → Reading → List (List ℕ)
    → ℕ → Type 0
IsWrongAmong t names tallest r [] k = ⊥
IsWrongAmong t names tallest r (line ∷ lines) zero = LineIsRight t names tallest r line → ⊥
IsWrongAmong t names tallest r (line ∷ lines) (suc k) =
    IsSomeAnd (line_thing t names r.earlier line)
    (λ x. IsGood t tallest r.steps x × IsWrongAmong t names tallest (reading_with r x) lines k)

-- the first wrong one of these lines, counted from 1
abbrev pub FirstWrongAmong : TaskTree → List NameEntry → Option ℕ → List (List ℕ) → ℕ → Type 0
FirstWrongAmong t names tallest lines line =
    (k : ℕ) × (line ≡ k + 1) × IsWrongAmong t names tallest nothing_read lines k
