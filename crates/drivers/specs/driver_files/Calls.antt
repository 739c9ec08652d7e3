-- What the calls of the reader answer, against the meanings of files.
use Rattle.std.specs.Prelude.{ℕ, ◌≡◌, Bool, true, false, List, map, Option, Some, None, Result, Ok, Err, Vec}
use Rattle.std.specs.Bool.{⊤}
use Rattle.std.specs.declared.alloc.Global.{Global}
use Rattle.drivers.specs.declared.driver_tokens.file.DriverText.{DriverText}
use Rattle.drivers.specs.declared.driver_tokens.terminal.DriverTerminal.{DriverTerminal}
use Rattle.drivers.specs.declared.driver_tokens.terminal.DriverTerminal.TheVariants as t
use Rattle.drivers.specs.declared.driver_tokens.terminal.DriverWord.TheVariants as w
use Rattle.drivers.specs.declared.driver_tokens.token.DriverToken.{DriverToken}
use Rattle.drivers.specs.driver_tokens.Tokens.{DriverLexeme, lexeme_in}
use Rattle.tasks.specs.declared.signature.SymbolInfo.{SymbolInfo}
use Rattle.drivers.specs.driver_items.Items.{string_value_of}
use Rattle.drivers.specs.driver_items.Symbols.{NamedTheories}
use Rattle.drivers.specs.driver_parts.Items.{DriverItem, file_import, item_of}
use Rattle.drivers.specs.driver_tokens.File.{driver_lines, lines_in}
use Rattle.drivers.specs.declared.driver_parts.driver.Driver.{Driver}
use Rattle.drivers.specs.declared.driver_parts.fault.DriverFault.{DriverFault}
use Rattle.drivers.specs.declared.driver_parts.fault.DriverFault.TheVariants as f
use Rattle.drivers.specs.declared.driver_files.reading.OpenFile.{OpenFile}
use Rattle.drivers.specs.declared.driver_files.reading.Progress.{Progress}
use Rattle.drivers.specs.driver_files.Reading.{file_refused, ◌then◌, or_syntax, ReadingPlace, CallMeaning, import, take_item, take_lines, take_bytes, finished, driver_with_printer, read_from, importer, reading_place}

-- the bytes of a result
abbrev pub bytes_of_result : {E : Type 0} → Result (Vec ℕ Global) E → Result (List ℕ) E
bytes_of_result (Ok bytes) = Ok bytes.items
bytes_of_result (Err e) = Err e

-- the lines of a file's bytes, or its fault
abbrev pub HasLines : ℕ → List ℕ → Result DriverText DriverFault → Type 0
HasLines file text (Ok its) = or_syntax file (driver_lines text) ≡ Ok (lines_in text its)
HasLines file text (Err f.Memory) = ⊤
HasLines file text (Err e) = or_syntax file (driver_lines text) ≡ Err (file_refused e)

-- how far a driver is read, where nothing was wrong
abbrev pub with_progress : {X : Type 0} → Result X DriverFault → Progress
    → Result Progress DriverFault
with_progress (Ok x) progress = Ok progress
with_progress (Err e) progress = Err e

abbrev pub next_of : Progress → ℕ
next_of progress = progress.next

abbrev pub place : ℕ → List ℕ → List (List ℕ) → ℕ → ReadingPlace
place file name opened room = record { file = file; name = name; opened = opened; room = room }

-- where an open file is read, with the files that are being read: it is one of them, or comes to
-- them
abbrev pub place_with : OpenFile → List (List ℕ) → ReadingPlace
place_with at opened = place at.file at.name.now opened at.room

abbrev pub place_within : OpenFile → List (List ℕ) → ReadingPlace
place_within at opened = reading_place at.room opened at.name.now at.file

-- two parts, one after the other
abbrev pub both_meanings : {A B : Type 0} → CallMeaning A → (A → CallMeaning B) → CallMeaning B
both_meanings first second files limit = first files limit then (λ a. second a files limit)

module _ (symbols : List SymbolInfo) (theories : NamedTheories) where
  -- the meanings of the parts of the reader
  abbrev pub ImportMeaning : ReadingPlace → ℕ → List ℕ → Progress → CallMeaning Progress
  ImportMeaning at byte name progress files limit =
      import (importer symbols theories at.room files limit) at byte name progress

  abbrev pub OneLineMeaning : ReadingPlace → Option (List ℕ) → List DriverLexeme → Progress
      → CallMeaning Progress
  OneLineMeaning at path line progress files limit =
      take_item symbols theories (importer symbols theories at.room files limit) at path
      (item_of line) progress

  abbrev pub LinesMeaning : ReadingPlace → Option (List ℕ) → List (List DriverLexeme) → Progress
      → CallMeaning Progress
  LinesMeaning at path lines progress files limit =
      take_lines symbols theories (importer symbols theories at.room files limit) at path
      lines progress

  -- the lines of a file, which then was read whole
  abbrev pub WholeMeaning : ReadingPlace → List ℕ → List (List DriverLexeme) → Progress
      → CallMeaning Progress
  WholeMeaning at bytes lines progress =
      both_meanings (LinesMeaning at None lines progress)
      (λ p files limit. Ok (finished at.name bytes p))

  abbrev pub BytesMeaning : ReadingPlace → List ℕ → Progress → CallMeaning Progress
  BytesMeaning at bytes progress files limit =
      take_bytes symbols theories (importer symbols theories at.room files limit) at bytes progress

  abbrev pub FileMeaning : ℕ → List (List ℕ) → List ℕ → Progress → CallMeaning Progress
  FileMeaning room opened name progress files limit =
      read_from symbols theories room files limit opened name progress

-- whether an item is no import
abbrev pub NoImport : DriverItem → Type 0
NoImport (file_import byte string) = ⊥
NoImport _ = ⊤

abbrev pub IsImport : List DriverToken → Option DriverToken → Type 0
IsImport line (Some string) = (text : List ℕ)
    → item_of (map (lexeme_in text) line)
    ≡ file_import string.start (string_value_of (lexeme_in text string))
IsImport line None = (text : List ℕ) → NoImport (item_of (map (lexeme_in text) line))

-- the driver of how far it is read, or 55
abbrev pub FinishesDriver : Progress → Result Driver DriverFault → Type 0
FinishesDriver progress (Ok driver) =
    driver_with_printer progress progress.parts.printer ≡ Ok driver
FinishesDriver progress (Err e) =
    driver_with_printer progress progress.parts.printer ≡ Err (file_refused e)

-- the words that begin and end a block
abbrev pub is_theory : DriverTerminal → Bool
is_theory (t.Word w.Theory) = true
is_theory _ = false

abbrev pub is_end : DriverTerminal → Bool
is_end (t.Word w.End) = true
is_end _ = false
