-- The text of a step file as it is written, and what it is read back as.
use Rattle.std.specs.Prelude.{◌≡◌, ℕ, List, [], ◌∷◌, ◌++◌, map, take, Option, Some}
use Rattle.kernel.specs.tasks.Task.{TaskTree}
use Rattle.kernel.specs.rules.Trees.{StepTree}
use Rattle.kernel.specs.rules.declared.rule.Step.{Step}
use Rattle.kernel.specs.rules.Meaning.{steps_at}
use Rattle.kernel.specs.Right.{AreRight, Closes}
use Rattle.name_tables.specs.declared.name_entries.names.NameEntry.{NameEntry}
use Rattle.step_lines.specs.tree_lines.Words.{LineWord}
use Rattle.step_lines.specs.tree_lines.Lines.{Earlier}
use Rattle.step_lines.specs.Steps.{Thing, line_made}
use Rattle.step_reading.specs.Lines.{Reading, reading_of, nothing_read, IsGood, reading_with, StepsOf}
use Rattle.step_writing.specs.tree_writing.Referring.{AreLines}
use Rattle.step_writing.specs.tree_writing.Text.{spaced, whole_text}
use Rattle.step_writing.specs.declared.words.Lines.{Lines}
use Rattle.step_writing.specs.Named.{AreLow}

-- words with a space between each two
abbrev pub joined_words : List LineWord → List ℕ
joined_words [] = []
joined_words (w ∷ ws) = w ++ spaced ws

-- lines, by their words, lead from one reading to another
abbrev pub ReadsTo : TaskTree → List NameEntry → Option ℕ → Reading → List (List LineWord)
    → Reading → Type 0
ReadsTo t table tallest r [] end = r ≡ end
ReadsTo t table tallest r (ws ∷ lines) end =
    (x : Thing) × (line_made t table r.earlier ws ≡ Some x) × IsGood t tallest r.steps x
    × ReadsTo t table tallest (reading_with r x) lines end

-- a text is lines that are read as this
pub record IsText (t : TaskTree) (table : List NameEntry) (tallest : Option ℕ) (text : List ℕ)
    (r : Reading) : Type 0 where
  pub lines : List (List LineWord)
  pub is : text ≡ whole_text (map joined_words lines)
  pub read : ReadsTo t table tallest nothing_read lines r

abbrev pub read_with : Earlier → List StepTree → Reading
read_with r steps = reading_of r.types r.patterns r.expressions steps

-- whatever the task, the lines of these steps were appended, where they are right
abbrev pub AddsSteps : Lines → List Step → List ℕ → List ℕ → Type 0
AddsSteps x steps old new =
    (t : TaskTree) (tallest : Option ℕ) (r : Earlier) → AreLines x.store.now x.numbers.now r
    → AreRight t (steps_at x.store.now steps)
    → IsText t x.table.now tallest old (read_with r [])
    → IsText t x.table.now tallest new (read_with r (steps_at x.store.now steps))

-- so were those of the first ones
abbrev pub AddsFirst : Lines → List Step → ℕ → List ℕ → List ℕ → Type 0
AddsFirst x steps i old new =
    (t : TaskTree) (tallest : Option ℕ) (r : Earlier) → AreLines x.store.now x.numbers.now r
    → AreRight t (steps_at x.store.now steps)
    → IsText t x.table.now tallest old (read_with r [])
    → IsText t x.table.now tallest new (read_with r (take i (steps_at x.store.now steps)))

-- a text is read back as these steps wherever they derive a task, by a reader whose tallest no tree
-- passes
abbrev pub StepsReadBack : List NameEntry → List StepTree → List ℕ → Type 0
StepsReadBack table steps text = (t : TaskTree) (tallest : Option ℕ) → Closes t steps
    → AreLow tallest steps → StepsOf t table tallest text steps
