-- What the calls promise that look for a fault.
use Rattle.std.specs.Prelude.{◌≡◌, ℕ, Bool, true, ◌&&◌, if◌then◌else◌, List, [], ◌∷◌, get_or, IsTrue, Option, Some, None, Result, Ok, Err}
use Rattle.trees.specs.Tree.{Tree, Leaf, One, Two, Three, HEnd}
use Rattle.drivers.specs.declared.driver_items.kinds.Syntax.{Syntax}
use Rattle.drivers.specs.driver_items.Syntaxes.{syntax_of}
use Rattle.tasks.specs.Task.{TaskTree}
use Rattle.name_tables.specs.Tables.{problem_things}
use Rattle.tasks.specs.Meaning.{task_at, TaskHeld}
use Rattle.name_tables.specs.Occurrences.{Occurrence}
use Rattle.name_tables.specs.Seen.{occurrence_at, seen_occurrences, has, KeysHeld}
use Rattle.printed_problems.specs.declared.checks.Checker.{Checker}
use Rattle.printed_problems.specs.declared.fault.PrintFault.{PrintFault}
use Rattle.printed_problems.specs.declared.fault.PrintFault.TheVariants.{Memory}
use Rattle.printed_problems.specs.Problems.{places_from}
use Rattle.printed_problems.specs.Faults.{has_forms, is_bare, at_place}

abbrev pub IsDueFault : PrintFault → Option PrintFault → Type 0
IsDueFault Memory due = Unit {0}
IsDueFault f due = due ≡ Some f

-- Ok where no fault is due, and else that one; want of memory is free
abbrev pub MeetsFault : {X : Type 0} → Result X PrintFault → Option PrintFault → Type 0
MeetsFault (Ok x) due = due ≡ None
MeetsFault (Err f) due = IsDueFault f due

-- these terms pass a test
abbrev pub Pass : (Tree → Bool) → List Tree → List ℕ → Type 0
Pass test s [] = Unit {0}
Pass test s (id ∷ ids) = IsTrue (test (get_or s id (Leaf HEnd))) × Pass test s ids

-- the syntax has all forms of these terms
abbrev pub HaveForms : Syntax → List Tree → List ℕ → Type 0
HaveForms p = Pass (has_forms p)

-- it is told whether there are all forms, and what was looked at has them
pub record LooksAt (p : Syntax) (s : List Tree) (due told : Bool) (ids : List ℕ) : Type 0 where
  pub is : told ≡ due
  pub done : HaveForms p s ids

-- whether the children of a term have all forms
abbrev pub parts_have_forms : Syntax → Tree → Bool
parts_have_forms p (Leaf h) = true
parts_have_forms p (One h a) = has_forms p a
parts_have_forms p (Two h a b) = has_forms p a && has_forms p b
parts_have_forms p (Three h a b c) = has_forms p a && (has_forms p b && has_forms p c)

-- what a look for faults is given: a task whose numbers are held, the things of its problem's
-- table, and the places of the bare ones
pub record CanCheck (c : Checker) : Type 0 where
  pub task_held : TaskHeld c.store.now c.task.now
  pub things_held : KeysHeld c.store.now c.things.now
  pub things : seen_occurrences c.store.now c.things.now
      ≡ problem_things (task_at c.store.now c.task.now)
  pub bare : c.bare.now ≡ places_from (is_bare c.driver.now (task_at c.store.now c.task.now)) 0
      (seen_occurrences c.store.now c.things.now)

-- whether the thing at a place is among these
abbrev pub is_seen : List Tree → List (ℕ × ℕ) → List Occurrence → ℕ → Bool
is_seen s keys os place = has os (occurrence_at s (get_or keys place (0, 0)))

abbrev pub first_where : (ℕ → Bool) → List ℕ → Option ℕ
first_where test [] = None
first_where test (p ∷ ps) = if test p then Some p else first_where test ps

-- the least bare place among what occurs
abbrev pub bare_fault : Checker → List (ℕ × ℕ) → Option PrintFault
bare_fault c seen = at_place (first_where
    (is_seen c.store.now c.things.now (seen_occurrences c.store.now seen)) c.bare.now)

-- a look among what occurs, where there was memory to find that
abbrev pub MeetsSeen : {E X : Type 0} → Checker → Result (List (ℕ × ℕ)) E
    → Result X PrintFault → Type 0
MeetsSeen c (Ok seen) r = MeetsFault r (bare_fault c seen)
MeetsSeen c (Err e) r = (due : Option PrintFault) → MeetsFault r due

-- the syntax of the driver's printer has all forms of these terms
abbrev pub AreFormed : Checker → List ℕ → Type 0
AreFormed c = HaveForms (syntax_of c.driver.now.printer) c.store.now

abbrev pub the_task : Checker → TaskTree
the_task c = task_at c.store.now c.task.now
