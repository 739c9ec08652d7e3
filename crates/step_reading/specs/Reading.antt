-- What code holds of a step file: trees and steps by their numbers in a store.
use Rattle.std.specs.Prelude.{◌≡◌, ℕ, List, ◌∷◌, [], ◌++◌, Option, Some, All}
use Rattle.tasks.specs.trees.Tree.{Tree}
use Rattle.tasks.specs.trees.Node.{Holds}
use Rattle.trees.specs.binders.Visits.{HoldTypes}
use Rattle.tasks.specs.Task.{TaskTree}
use Rattle.tasks.specs.Meaning.{trees_at, TaskHeld}
use Rattle.tasks.specs.Looking.{IsIndexOf}
use Rattle.rules.specs.Meaning.{steps_at, StepsHeld}
use Rattle.name_tables.specs.declared.name_entries.names.NameEntry.{NameEntry}
use Rattle.step_lines.specs.tree_lines.Made.{IsNamesOf}
use Rattle.step_lines.specs.declared.thing.MadeThing.{MadeThing}
use Rattle.step_lines.specs.declared.thing.MadeThing.TheVariants as made
use Rattle.step_lines.specs.Steps.{Thing}
use Rattle.step_reading.specs.declared.fault.ReadFault.{ReadFault}
use Rattle.step_reading.specs.declared.fault.ReadFault.TheVariants.{Memory, WrongLine}
use Rattle.step_reading.specs.declared.good.Reader.{Reader}
use Rattle.step_reading.specs.declared.read.Read.{Read}
use Rattle.step_reading.specs.Lines.{Reading, reading_of, line_thing, IsGood, FirstWrong}

-- what was read so far stands for
abbrev pub reading_at : List Tree → Read → Reading
reading_at s r = reading_of (trees_at s r.types.items) (trees_at s r.patterns.items)
    (trees_at s r.expressions.items) (steps_at s r.steps.items)

pub record ReadHeld (s : List Tree) (r : Read) : Type 0 where
  pub types : HoldTypes s r.types.items
  pub patterns : All (Holds s) r.patterns.items
  pub expressions : All (Holds s) r.expressions.items
  pub steps : StepsHeld s r.steps.items

-- what lines are read with: a task whose numbers are held, with its index, and a table with its
-- names
pub record ReaderHeld (s : List Tree) (x : Reader) : Type 0 where
  pub task : TaskHeld s x.task.now
  pub index : IsIndexOf x.index.now x.task.now
  pub names : IsNamesOf x.names.now x.table.now

-- a line makes this thing, and it is good
pub record MakesGood (t : TaskTree) (names : List NameEntry) (tallest : Option ℕ) (r : Reading)
    (line : List ℕ) (x : Thing) : Type 0 where
  pub made : line_thing t names r.earlier line ≡ Some x
  pub good : IsGood t tallest r.steps x

-- What a refusal says: a wrong line is the first one. Want of memory says nothing.
abbrev pub IsReadFault : TaskTree → List NameEntry → Option ℕ → List ℕ → ReadFault → Type 0
IsReadFault t names tallest bytes Memory = Unit {0}
IsReadFault t names tallest bytes (WrongLine line) = FirstWrong t names tallest bytes line

-- a thing comes after those of its kind, and the others stay
abbrev pub IsReadKept : MadeThing → Read → Read → Type 0
IsReadKept (made.Type y) r r' =
    (r'.types.items ≡ r.types.items ++ y ∷ []) × (r'.patterns.items ≡ r.patterns.items)
    × (r'.expressions.items ≡ r.expressions.items) × (r'.steps.items ≡ r.steps.items)
IsReadKept (made.Pattern p) r r' =
    (r'.types.items ≡ r.types.items) × (r'.patterns.items ≡ r.patterns.items ++ p ∷ [])
    × (r'.expressions.items ≡ r.expressions.items) × (r'.steps.items ≡ r.steps.items)
IsReadKept (made.Expression e) r r' =
    (r'.types.items ≡ r.types.items) × (r'.patterns.items ≡ r.patterns.items)
    × (r'.expressions.items ≡ r.expressions.items ++ e ∷ []) × (r'.steps.items ≡ r.steps.items)
IsReadKept (made.Derived st) r r' =
    (r'.types.items ≡ r.types.items) × (r'.patterns.items ≡ r.patterns.items)
    × (r'.expressions.items ≡ r.expressions.items) × (r'.steps.items ≡ r.steps.items ++ st ∷ [])
