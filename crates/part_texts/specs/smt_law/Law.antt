-- The law of texts: what a text in SMT-LIB tells of its problem, where the templates of the driver
-- are plain.
use Rattle.std.specs.Prelude.{◌≡◌, ℕ, ◌<◌, ◌≤◌, ◌^◌, Bool, false, List, [], ◌∷◌, ◌++◌, map, length, All, None, ℤ, pos, negsuc}
use Rattle.std.specs.List.{list_any}
use Rattle.tasks.specs.trees.Tree.{Tree, Leaf, One, Two, Three, Head, HNum, height}
use Rattle.printed_problems.specs.drivers.driver_items.Syntaxes.{syntax_of}
use Rattle.printed_problems.specs.drivers.declared.driver_items.kinds.Syntax.TheVariants.{Smt}
use Rattle.printed_problems.specs.drivers.declared.driver_parts.driver.Driver.{Driver}
use Rattle.tasks.specs.Task.{SymbolTree, TaskTree}
use Rattle.tasks.specs.Valid.{IsValid}
use Rattle.tasks.specs.Words.{NamesAreScoped}
use Rattle.name_tables.specs.declared.name_entries.names.NameEntry.{NameEntry}
use Rattle.name_tables.specs.Spelling.{own_name}
use Rattle.name_tables.specs.Tables.{problem_things, problem_names}
use Rattle.printed_problems.specs.Problems.{preludes, problem_of}
use Rattle.printed_problems.specs.Faults.{print_fault}
use Rattle.part_texts.specs.smt_texts.Text.{smt_text}
use Rattle.part_texts.specs.smt_law.s_expressions.Sexps.{breaks}
use Rattle.part_texts.specs.smt_law.Plain.{is_decimal_digit, begins_number, Words, ArePlain}
use Rattle.part_texts.specs.smt_law.Reading.{tree_as_read}

abbrev pub integer_fits : ℤ → Type 0
integer_fits (pos n) = n < 2 ^ 128
integer_fits (negsuc n) = n < 2 ^ 128

abbrev pub literal_fits : Head → Type 0
literal_fits (HNum z) = integer_fits z
literal_fits _ = Unit {0}

abbrev pub LiteralsFit : Tree → Type 0
LiteralsFit (Leaf h) = literal_fits h
LiteralsFit (One h a) = LiteralsFit a
LiteralsFit (Two h a b) = LiteralsFit a × LiteralsFit b
LiteralsFit (Three h a b c) = LiteralsFit a × LiteralsFit b × LiteralsFit c

-- the numbers of a formula fit the machine, as those of each store do
pub record NumbersFit (e : Tree) : Type 0 where
  pub height : height e ≤ 2 ^ 64
  pub literals : LiteralsFit e

-- a name that doesn't begin as a number and has no blank, line feed or parenthesis in it
pub record IsEntrySpelt (e : NameEntry) : Type 0 where
  pub start : begins_number e.name ≡ false
  pub whole : list_any breaks e.name ≡ false

-- a valid task that is printed under a driver
pub record IsPrinted (d : Driver) (t : TaskTree) : Type 0 where
  pub valid : IsValid t
  pub printed : print_fault d t ≡ None
  pub names : All IsEntrySpelt (problem_names t)
  pub table : length (problem_things t) ≤ 2 ^ 64
  pub params : length t.params ≤ 2 ^ 64
  pub facts : All NumbersFit (problem_of d t).facts
  pub locals : All NumbersFit t.locals
  pub goal : NumbersFit t.goal

-- one signature with its integers, one table, and the same preludes
pub record AreAlike (d : Driver) (t u : TaskTree) : Type 0 where
  pub symbols : t.symbols ≡ u.symbols
  pub ints : t.ints ≡ u.ints
  pub things : problem_things t ≡ problem_things u
  pub names : problem_names t ≡ problem_names u
  pub preludes : preludes d t ≡ preludes d u

-- the same facts and then locals, and the same goal
pub record TellTheSame (d : Driver) (t u : TaskTree) : Type 0 where
  pub premises : map tree_as_read ((problem_of d t).facts ++ (problem_of d t).locals)
      ≡ map tree_as_read ((problem_of d u).facts ++ (problem_of d u).locals)
  pub goal : tree_as_read (problem_of d t).goal ≡ tree_as_read (problem_of d u).goal

abbrev pub LawOfTexts : Type 0
LawOfTexts =
    (d : Driver) (words : Words) (t u : TaskTree) (k n : ℕ) → syntax_of d.printer ≡ Smt
    → ArePlain d t.symbols (problem_names t) words → IsPrinted d t → IsPrinted d u
    → AreAlike d t u
    → smt_text d t (problem_of d t) k n ≡ smt_text d u (problem_of d u) k n → TellTheSame d t u

abbrev pub begins_digit : List ℕ → Bool
begins_digit [] = false
begins_digit (c ∷ cs) = is_decimal_digit c

-- a symbol whose own name, without those of its scopes, doesn't begin with a digit and has no
-- blank, line feed or parenthesis in it
pub record IsOrdinary (e : SymbolTree) : Type 0 where
  pub start : begins_digit (own_name e.name) ≡ false
  pub whole : list_any breaks (own_name e.name) ≡ false

-- the names of a table are spelt where those of the symbols are ordinary
abbrev pub NamesAreSpelt : Type 0
NamesAreSpelt = (t : TaskTree) → length (problem_things t) ≤ 2 ^ 64 → All IsOrdinary t.symbols
    → All IsEntrySpelt (problem_names t)

-- and where those of the symbols are made as the names in a source are
abbrev pub ScopedNamesAreSpelt : Type 0
ScopedNamesAreSpelt = (t : TaskTree) → length (problem_things t) ≤ 2 ^ 64 → NamesAreScoped t
    → All IsEntrySpelt (problem_names t)
