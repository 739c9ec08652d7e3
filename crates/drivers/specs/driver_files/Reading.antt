-- A driver's file with its imports in place (Why3 manual, "Drivers").
use Rattle.std.specs.Prelude.{ℕ, zero, suc, ◌+◌, ◌≡◌, ◌≤◌, Bool, true, ◌||◌, nat_eq, nat_lt, List, [], ◌∷◌, ◌++◌, length, take, Option, Some, None, IfSome, Result, Ok, Err, if◌then◌else◌}
use Rattle.std.specs.List.{list_any}
use Rattle.std.specs.Str.Lossy.{utf8_lossy}
use Rattle.word_tables.specs.Words.{is_same_word}
use Rattle.outside.specs.State.{Files, LibraryState, Rose}
use Rattle.tasks.specs.declared.signature.SymbolInfo.{SymbolInfo}
use Rattle.drivers.specs.driver_tokens.Tokens.{DriverLexeme}
use Rattle.drivers.specs.driver_tokens.File.{driver_lines}
use Rattle.drivers.specs.declared.driver_parts.driver.Driver.{Driver}
use Rattle.drivers.specs.declared.driver_items.kinds.Printer.{Printer}
use Rattle.drivers.specs.declared.driver_parts.fault.DriverFault.{DriverFault}
use Rattle.drivers.specs.declared.driver_parts.fault.DriverFault.TheVariants as f
use Rattle.drivers.specs.declared.driver_parts.parts.DriverParts.{DriverParts}
use Rattle.drivers.specs.declared.driver_files.reading.Progress.{Progress}
use Rattle.drivers.specs.driver_parts.Items.{DriverItem, file_import, item_of}
use Rattle.drivers.specs.driver_parts.Parts.{no_parts, driver_of}
use Rattle.drivers.specs.driver_parts.Steps.{item_step, block_after}
use Rattle.drivers.specs.driver_items.Symbols.{NamedTheories}

-- what is in the way of a driver: a fault, a file that isn't there, or one that can't be read, with
-- its name
pub data DriverStop : Type 0 where
  file_refused : DriverFault → DriverStop
  file_absent : ℕ → DriverStop
  file_unread : ℕ → List ℕ → DriverStop

abbrev pub DriverOutcome : Type 0 → Type 0
DriverOutcome A = Result A DriverStop

infixl 10 ◌then◌
abbrev pub ◌then◌ : {A B : Type 0} → DriverOutcome A → (A → DriverOutcome B) → DriverOutcome B
(Ok a) then g = g a
(Err e) then g = Err e

abbrev pub or_refused : {A : Type 0} → Result A DriverFault → DriverOutcome A
or_refused (Ok a) = Ok a
or_refused (Err e) = Err (file_refused e)

-- so many fetches can be read: those of the files with numbers below, or all
abbrev pub file_reads : Option ℕ → ℕ → Bool
file_reads None file = true
file_reads (Some n) file = nat_lt file n

abbrev pub if_file_there : ℕ → Option (List ℕ) → DriverOutcome (List ℕ)
if_file_there file None = Err (file_absent file)
if_file_there file (Some whole) = Ok (take 67108865 whole)

abbrev pub file_fetched : ℕ → List ℕ → Files → Option ℕ → DriverOutcome (List ℕ)
file_fetched file name files limit =
    if file_reads limit file then if_file_there file (files name) else Err (file_unread file name)

abbrev pub if_file_short : ℕ → List ℕ → DriverOutcome (List ℕ)
if_file_short file bytes =
    if nat_eq (length bytes) 67108865 then Err (file_refused (f.TooLong file)) else Ok bytes

-- the bytes of a file that isn't too long
abbrev pub short_file : ℕ → List ℕ → Files → Option ℕ → DriverOutcome (List ℕ)
short_file file name files limit = file_fetched file name files limit then if_file_short file

-- the lines of a file's bytes
abbrev pub or_syntax : ℕ → Result (List (List DriverLexeme)) ℕ
    → DriverOutcome (List (List DriverLexeme))
or_syntax file (Ok lines) = Ok lines
or_syntax file (Err byte) = Err (file_refused (f.DriverSyntax file byte))

abbrev pub is_named_among : List (List ℕ) → List ℕ → Bool
is_named_among names name = list_any (λ its. is_same_word its name) names

-- the bytes up to the last `/`, with it
abbrev pub folder : List ℕ → List ℕ
folder [] = []
folder (a ∷ bs) = if list_any (λ b. nat_eq b 47) (a ∷ bs) then a ∷ folder bs else []

-- The name of an imported file: the folder of the importing one, and the string, as a text. Strings
-- are UTF-8, so nothing is replaced (proofs/Plain.antt).
abbrev pub name_from : List ℕ → List ℕ → List ℕ
name_from importer string = utf8_lossy (folder importer ++ string)

-- a file that is being read: its number, its name, the files that are being read with it, and how
-- many more may be
pub record ReadingPlace : Type 0 where
  pub file : ℕ
  pub name : List ℕ
  pub opened : List (List ℕ)
  pub room : ℕ

-- what reads an imported file, given the files that are being read, its name, and how far the
-- driver is read
abbrev pub Importer : Type 0
Importer = List (List ℕ) → List ℕ → Progress → DriverOutcome Progress

-- An import: 54 where the file is being read, or no more may be; a file that was read whole is
-- passed over.
abbrev pub import : Importer → ReadingPlace → ℕ → List ℕ → Progress → DriverOutcome Progress
import read place byte name progress =
    if nat_eq place.room 0 || is_named_among place.opened name then Err
    (file_refused (f.ImportCycle place.file byte))
    else (if is_named_among progress.whole name then Ok progress else read place.opened name
    progress)

abbrev pub with_parts : Progress → Result DriverParts DriverFault → DriverOutcome Progress
with_parts progress (Ok parts) = Ok (record progress { parts = parts })
with_parts progress (Err e) = Err (file_refused e)

-- a file that was read whole
abbrev pub finished : List ℕ → List ℕ → Progress → Progress
finished name bytes progress =
    record progress { whole = progress.whole ++ name ∷ []; length = length bytes }

-- where a file is read: it is one of those that are being read
abbrev pub reading_place : ℕ → List (List ℕ) → List ℕ → ℕ → ReadingPlace
reading_place room opened name file =
    record { file = file; name = name; opened = opened ++ name ∷ []; room = room }

abbrev pub one_file_more : Progress → Progress
one_file_more progress = record progress { next = progress.next + 1 }

abbrev pub no_import : Importer
no_import opened name progress = Ok progress

abbrev pub no_progress : Progress
no_progress = record { parts = no_parts; whole = []; next = 1; length = 0 }

-- the driver, or 55 where no printer is named
abbrev pub driver_with_printer : Progress → Option Printer → DriverOutcome Driver
driver_with_printer progress (Some printer) = Ok (driver_of progress.parts printer progress.next)
driver_with_printer progress None = Err (file_refused (f.UnknownPrinter 1 progress.length))

module _ (symbols : List SymbolInfo) (theories : NamedTheories) where
  -- an item in its place
  abbrev pub take_item : Importer → ReadingPlace → Option (List ℕ) → DriverItem → Progress
      → DriverOutcome Progress
  take_item read place path (file_import byte string) progress =
      import read place byte (name_from place.name string) progress
  take_item read place path item progress =
      with_parts progress (item_step symbols theories place.file path item progress.parts)

  -- the lines of a file, in order
  abbrev pub take_lines : Importer → ReadingPlace → Option (List ℕ) → List (List DriverLexeme)
      → Progress → DriverOutcome Progress
  take_lines read place path [] progress = Ok progress
  take_lines read place path (l ∷ ls) progress =
      take_item read place path (item_of l) progress then take_lines read place
      (block_after path (item_of l)) ls

  -- the bytes of a file: its whole syntax before its items
  abbrev pub take_bytes : Importer → ReadingPlace → List ℕ → Progress → DriverOutcome Progress
  take_bytes read place bytes progress =
      or_syntax place.file (driver_lines bytes)
      then (λ lines. take_lines read place None lines progress)
      then (λ p. Ok (finished place.name bytes p))

  -- a file, which is fetched with the next number
  abbrev pub take_file : Importer → ℕ → Files → Option ℕ → Importer
  take_file read room files limit opened name progress =
      short_file progress.next name files limit
      then (λ bytes. take_bytes read (reading_place room opened name progress.next) bytes
      (one_file_more progress))

  -- a file, where so many more may be read at once
  unfoldable pub read_from : ℕ → Files → Option ℕ → Importer
  read_from zero files limit = take_file no_import zero files limit
  read_from (suc room) files limit = take_file (read_from room files limit) (suc room) files limit

  -- what reads the imports of a file, where so many more may be read at once
  abbrev pub importer : ℕ → Files → Option ℕ → Importer
  importer zero files limit = no_import
  importer (suc room) files limit = read_from room files limit

  -- the driver of a file, whose number is 1; 32 files may be read at once
  abbrev pub driver_named : List ℕ → Files → Option ℕ → DriverOutcome Driver
  driver_named name files limit =
      read_from 31 files limit [] name no_progress then (λ p. driver_with_printer p p.parts.printer)

-- What a call answers over a library, against its meaning.
abbrev pub CallMeaning : Type 0 → Type 0
CallMeaning A = Files → Option ℕ → DriverOutcome A

-- so many fetches can be read
abbrev pub ReachesReading : Option ℕ → ℕ → Type 0
ReachesReading None next = Unit {0}
ReachesReading (Some n) next = next ≤ n

-- no count rose; a file is absent; a fetch failed
pub record StaysSame (old new : LibraryState) : Type 0 where
  pub faults : new.faults ≡ old.faults
  pub absents : new.absents ≡ old.absents

pub record OneFileAbsent (old new : LibraryState) : Type 0 where
  pub faults : new.faults ≡ old.faults
  pub later : old.absents ≤ new.absents
  pub rose : Rose old.absents new.absents

pub record OneFileFault (old new : LibraryState) : Type 0 where
  pub absents : new.absents ≡ old.absents
  pub later : old.faults ≤ new.faults
  pub rose : Rose old.faults new.faults

-- the file with this number can't be read, and it is the one whose name the library refused
abbrev pub StopsReadingAt : {A : Type 0} → CallMeaning A → ℕ → Option (List ℕ) → Files → Type 0
StopsReadingAt meaning file refused_name files =
    (name : List ℕ) × (meaning files (Some file) ≡ Err (file_unread file name))
    × IfSome refused_name (λ its. its ≡ name)

-- The answer of a part that fetches files from number `start` on, and after Ok has fetched those
-- below `next`.
abbrev pub IsReadAs : {A : Type 0} → CallMeaning A → ℕ → (A → ℕ) → LibraryState → LibraryState
    → Result A DriverFault → Type 0
IsReadAs meaning start next old new (Ok value) = StaysSame old new × (start ≤ next value)
    × IfSome old.files (λ files. (limit : Option ℕ) → ReachesReading limit (next value)
    → meaning files limit ≡ Ok value)
IsReadAs meaning start next old new (Err f.Memory) = StaysSame old new
IsReadAs meaning start next old new (Err (f.Absent file)) =
    OneFileAbsent old new × IfSome old.files (λ files. meaning files None ≡ Err (file_absent file))
IsReadAs meaning start next old new (Err (f.ReadFault file)) =
    OneFileFault old new × (start ≤ file)
    × IfSome old.files (StopsReadingAt meaning file new.refused_name)
IsReadAs meaning start next old new (Err fault) =
    StaysSame old new × IfSome old.files (λ files. meaning files None ≡ Err (file_refused fault))

-- The files stay, and the answer meets the meaning.
pub record ReadsAs {A : Type 0} (meaning : CallMeaning A) (start : ℕ) (next : A → ℕ)
    (old new : LibraryState) (result : Result A DriverFault) : Type 0 where
  pub files : new.files ≡ old.files
  pub meets : IsReadAs meaning start next old new result
