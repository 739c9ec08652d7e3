-- The templates of drivers/smt_syntax.drv, as they are read over the signature of a task.
use Rattle.std.specs.Prelude.{◌≡◌, ℕ, ◌==◌, true, if◌then◌else◌, List, [], ◌∷◌, ◌++◌, codes, map, Option, Some, None, IsOkAnd}
use Rattle.outside.specs.State.{Files}
use Rattle.tasks.specs.trees.declared.ints.Ints.{Ints}
use Rattle.printed_problems.specs.drivers.declared.driver_items.kinds.Piece.{Piece}
use Rattle.printed_problems.specs.drivers.driver_items.Templates as read
use Rattle.printed_problems.specs.drivers.declared.driver_items.kinds.Printer.TheVariants.{Smt}
use Rattle.printed_problems.specs.drivers.declared.driver_items.symbols.Target.TheVariants.{Entry}
use Rattle.printed_problems.specs.drivers.driver_items.Symbols.{NamedTheories, is_known, target_of}
use Rattle.printed_problems.specs.drivers.declared.driver_tokens.terminal.NameKind.{NameKind}
use Rattle.printed_problems.specs.drivers.declared.driver_tokens.terminal.NameKind.TheVariants.{Function, Predicate}
use Rattle.printed_problems.specs.drivers.driver_files.Reading.{driver_named}
use Rattle.printed_problems.specs.drivers.declared.driver_parts.driver.Driver.{Driver}
use Rattle.tasks.specs.declared.signature.SymbolInfo.{SymbolInfo}
use Rattle.tasks.specs.Task.{TaskTree}
use Rattle.tasks.specs.Valid.{IsValid}
use Rattle.name_tables.specs.Tables.{problem_names}
use Rattle.part_texts.specs.smt_law.Plain.{Words, ArePlain}

-- a symbol with a template: its entry, its number of arguments, its word, and the string in the
-- file
pub record ShippedRow : Type 0 where
  pub entry : ℕ
  pub arity : ℕ
  pub word : List ℕ
  pub string : List ℕ

abbrev pub shipped_row : ℕ → ℕ → List ℕ → List ℕ → ShippedRow
shipped_row k n word string = record { entry = k; arity = n; word = word; string = string }

abbrev pub shipped_rows : Ints → List ShippedRow
shipped_rows z =
    shipped_row z.neg 1 (codes "-") (codes "(- %1)")
    ∷ shipped_row z.add 2 (codes "+") (codes "(+ %1 %2)")
    ∷ shipped_row z.sub 2 (codes "-") (codes "(- %1 %2)")
    ∷ shipped_row z.mul 2 (codes "*") (codes "(* %1 %2)")
    ∷ shipped_row z.lt 2 (codes "<") (codes "(< %1 %2)")
    ∷ shipped_row z.le 2 (codes "<=") (codes "(<= %1 %2)")
    ∷ shipped_row z.gt 2 (codes ">") (codes "(> %1 %2)")
    ∷ shipped_row z.ge 2 (codes ">=") (codes "(>= %1 %2)") ∷ []

-- of the integers, where the signature has them
abbrev pub rows_of : Option Ints → List ShippedRow
rows_of None = []
rows_of (Some z) = shipped_rows z

abbrev pub or_none : Option (List Piece) → List Piece
or_none None = []
or_none (Some pieces) = pieces

-- the pieces of a string for so many arguments
abbrev pub pieces_of : List ℕ → ℕ → List Piece
pieces_of string n = or_none (read.template_pieces string n)

abbrev pub template_row : ShippedRow → ℕ × List Piece
template_row r = (r.entry, pieces_of r.string r.arity)

pub record HasShippedTemplates (d : Driver) (ints : Option Ints) : Type 0 where
  pub int : d.int_template ≡ Some (codes "Int")
  pub equality : d.eq_template ≡ Some (pieces_of (codes "(= %1 %2)") 2)
  pub symbols : d.templates ≡ map template_row (rows_of ints)

abbrev pub shipped_word : List ShippedRow → ℕ → List ℕ
shipped_word [] k = []
shipped_word (r ∷ rs) k = if r.entry == k then r.word else shipped_word rs k

abbrev pub shipped_words : Option Ints → Words
shipped_words ints = record {
  of_symbol =
      (λ k. if k == 0 then codes "Int" else shipped_word (rows_of ints) k);
  of_equality = codes "=";
}

-- they are plain
abbrev pub ShippedArePlain : Type 0
ShippedArePlain = (d : Driver) (t : TaskTree) → IsValid t → HasShippedTemplates d t.ints
    → ArePlain d t.symbols (problem_names t) (shipped_words t.ints)

-- the file itself
abbrev pub shipped_text : List ℕ
shipped_text = codes "prelude \"(set-logic UFNIA)\"\nprinter \"smtv2\"\nvalid \"^unsat\"\n"
    ++ codes "theory BuiltIn syntax type int \"Int\" syntax predicate (=) \"(= %1 %2)\" end\n"
    ++ codes "theory int.Int\n"
    ++ codes "  syntax function (-_) \"(- %1)\"     syntax function (+) \"(+ %1 %2)\"\n"
    ++ codes "  syntax function (-) \"(- %1 %2)\"   syntax function (*) \"(* %1 %2)\"\n"
    ++ codes "  syntax predicate (<) \"(< %1 %2)\"  syntax predicate (<=) \"(<= %1 %2)\"\n"
    ++ codes "  syntax predicate (>) \"(> %1 %2)\"  syntax predicate (>=) \"(>= %1 %2)\"\n"
    ++ codes "  remove allprops\nend\n"

-- the entries of the theory int.Int in a source: those after the type `int`
abbrev pub first_entries : Ints
first_entries = record { neg = 1; add = 2; sub = 3; mul = 4; lt = 5; le = 6; gt = 7; ge = 8 }

-- the entry of a name of int.Int, which has so many arguments
abbrev pub IsIntName : List SymbolInfo → NameKind → List ℕ → ℕ → ℕ → Type 0
IsIntName symbols kind name entry arity =
    target_of symbols (codes "int.Int") kind name ≡ Some (Entry entry, arity)

-- the theory int.Int is known, and its names stand for these entries
pub record KnowsInts (symbols : List SymbolInfo) (theories : NamedTheories)
    (z : Ints) : Type 0 where
  pub known : is_known theories (codes "int.Int") ≡ true
  pub neg : IsIntName symbols Function (codes "-_") z.neg 1
  pub add : IsIntName symbols Function (codes "+") z.add 2
  pub sub : IsIntName symbols Function (codes "-") z.sub 2
  pub mul : IsIntName symbols Function (codes "*") z.mul 2
  pub lt : IsIntName symbols Predicate (codes "<") z.lt 2
  pub le : IsIntName symbols Predicate (codes "<=") z.le 2
  pub gt : IsIntName symbols Predicate (codes ">") z.gt 2
  pub ge : IsIntName symbols Predicate (codes ">=") z.ge 2

-- the driver that is read from the file has them
abbrev pub ShippedAreRead : Type 0
ShippedAreRead =
    (symbols : List SymbolInfo) (theories : NamedTheories) (files : Files) (name : List ℕ)
    → KnowsInts symbols theories first_entries → files name ≡ Some shipped_text
    → IsOkAnd (driver_named symbols theories name files None)
    (λ d. (d.printer ≡ Smt) × HasShippedTemplates d (Some first_entries))
