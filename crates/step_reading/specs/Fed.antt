-- What a reader of a step file holds after the bytes that it was fed.
use Rattle.std.specs.Prelude.{◌≡◌, ℕ, ◌+◌, List, [], ◌∷◌, ◌++◌, length, Option, Some, None, IfSome, IfNone, Result, Ok, Err}
use Rattle.tasks.specs.trees.Tree.{Tree}
use Rattle.tasks.specs.Task.{TaskTree}
use Rattle.tasks.specs.declared.task.Task.{Task}
use Rattle.tasks.specs.Meaning.{task_at}
use Rattle.tasks.specs.Looking.{IsIndexOf}
use Rattle.rules.specs.Trees.{StepTree}
use Rattle.kernel.specs.Right.{last_starts}
use Rattle.name_tables.specs.declared.name_entries.names.NameEntry.{NameEntry}
use Rattle.step_lines.specs.tree_lines.Made.{IsNamesOf}
use Rattle.step_reading.specs.Words.{line_parts, ended_lines}
use Rattle.step_reading.specs.Marks.{AreMarkedTyped}
use Rattle.step_reading.specs.Lines.{nothing_read, LinesMake, FirstWrongAmong}
use Rattle.step_reading.specs.Reading.{ReadHeld, reading_at}
use Rattle.step_reading.specs.declared.fault.ReadFault.{ReadFault}
use Rattle.step_reading.specs.declared.fault.ReadFault.TheVariants.{Memory, WrongLine}
use Rattle.step_reading.specs.declared.ended.ReadLines.{ReadLines}
use Rattle.step_reading.specs.declared.feeding.Tables.{Tables}
use Rattle.step_reading.specs.declared.feeding.StepReader.{StepReader}

-- the tables of a reader are those of a task and of its names
abbrev pub AreTablesOf : Task → List NameEntry → Tables → Type 0
AreTablesOf task names x = IsIndexOf x.index task × IsNamesOf x.places names

-- all these lines are right, and what they make was kept
pub record AreLinesRead (t : TaskTree) (names : List NameEntry) (tallest : Option ℕ) (s : List Tree)
    (lines : List (List ℕ)) (l : ReadLines) : Type 0 where
  pub made : LinesMake t names tallest nothing_read lines (reading_at s l.read)
  pub count : l.ended ≡ length lines
  pub held : ReadHeld s l.read
  pub marks : AreMarkedTyped t s l.marks.items

-- so are the ended lines of these bytes, and the bytes of the unfinished line were kept
pub record AreBytesRead (t : TaskTree) (names : List NameEntry) (tallest : Option ℕ) (s : List Tree)
    (bytes : List ℕ) (l : ReadLines) : Type 0 where
  pub lines : List (List ℕ)
  pub parts : line_parts bytes ≡ lines ++ l.rest.items ∷ []
  pub read : AreLinesRead t names tallest s lines l

-- What a refusal says of these lines: a wrong line is the first one. Want of memory says nothing.
abbrev pub IsLineFault : TaskTree → List NameEntry → Option ℕ → List (List ℕ) → ReadFault → Type 0
IsLineFault t names tallest lines Memory = Unit {0}
IsLineFault t names tallest lines (WrongLine line) = FirstWrongAmong t names tallest lines line

-- What a refusal after so many right lines says: the line after them is wrong where the last step
-- hasn't the start of the task.
abbrev pub IsUnfinished : TaskTree → List StepTree → ℕ → ReadFault → Type 0
IsUnfinished t steps ended Memory = Unit {0}
IsUnfinished t steps ended (WrongLine line) = (line ≡ ended + 1) × (last_starts t steps → ⊥)

-- A reader was fed these bytes. It refused them exactly where one of the lines that a line feed has
-- ended is wrong, as the first such line, or for want of memory.
pub record IsFed (s : List Tree) (task : Task) (names : List NameEntry) (bytes : List ℕ)
    (r : StepReader) : Type 0 where
  pub tables : IfSome r.tables (AreTablesOf task names)
  pub read : IfNone r.fault (AreBytesRead (task_at s task) names r.tallest s bytes r.lines)
  pub fault : IfSome r.fault (IsLineFault (task_at s task) names r.tallest (ended_lines bytes))

-- what a reader answers
abbrev pub answer_of : Option ReadFault → Result (Unit {0}) ReadFault
answer_of None = Ok tt
answer_of (Some e) = Err e
