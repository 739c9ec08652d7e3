-- Worked rows by computation: names of imports, cycles, files that aren't there, and drivers without a printer.
use Rattle.std.specs.Prelude.{◌≡◌, ℕ, List, [], ◌∷◌, codes, None, Some, Ok, Err, refl, if◌then◌else◌}
use Rattle.std.specs.Str.{chars, is_utf8}
use Rattle.std.specs.Str.Lossy.{utf8_lossy, utf8_valid_len}
use lib.Utf8.{encode}
use Rattle.word_tables.specs.Words.{is_same_word}
use Rattle.outside.specs.State.{Files}
use Rattle.drivers.specs.declared.driver_parts.fault.DriverFault.TheVariants as f
use Rattle.drivers.specs.declared.driver_files.reading.Progress.{Progress}
use Rattle.drivers.specs.driver_files.Reading.{file_refused, file_absent, file_unread, ReadingPlace, folder, import, no_import, no_progress, read_from, driver_named}

deep_folder : folder (codes "x/y/f") ≡ codes "x/y/"
deep_folder = refl

no_folder : folder (codes "f") ≡ []
no_folder = refl

abbrev at_room : ℕ → ReadingPlace
at_room room = record { file = 3; name = codes "d"; opened = codes "d" ∷ []; room = room }

abbrev e_was_read : Progress
e_was_read = record no_progress { whole = codes "e" ∷ [] }

-- a file that is being read; one that was read; one where no more may be read, also if it was read
cycle : import no_import (at_room 31) 7 (codes "d") e_was_read ≡ Err (file_refused (f.ImportCycle 3 7))
cycle = refl

read_before : import no_import (at_room 1) 7 (codes "e") e_was_read ≡ Ok e_was_read
read_before = refl

no_room : import no_import (at_room 0) 7 (codes "e") e_was_read ≡ Err (file_refused (f.ImportCycle 3 7))
no_room = refl

-- the library has one file
abbrev one_file : List ℕ → Files
one_file text name = if is_same_word name (codes "d") then Some text else None

no_file : driver_named [] [] (codes "e") (one_file []) None ≡ Err (file_absent 1)
unfolding read_from
no_file = refl

no_fetch : driver_named [] [] (codes "d") (one_file []) (Some 1) ≡ Err (file_unread 1 (codes "d"))
unfolding read_from
no_fetch = refl

no_printer : driver_named [] [] (codes "d") (one_file (codes "valid 1 ")) None ≡ Err (file_refused (f.UnknownPrinter 1 8))
unfolding read_from
no_printer = refl

no_driver : driver_named [] [] (codes "d") (one_file (codes "valid 1 foo")) None ≡ Err (file_refused (f.DriverSyntax 1 8))
unfolding read_from
no_driver = refl

-- `import "d"` in `d`
own_import : driver_named [] [] (codes "d") (one_file (codes "import \"d\"")) None ≡ Err (file_refused (f.ImportCycle 1 7))
unfolding read_from is_utf8 chars encode utf8_lossy utf8_valid_len
own_import = refl
