-- The shape of the words.
use Rattle.std.specs.Prelude.{ℕ, Bool, true, false, not, List, [], ◌∷◌, length, Option, Some, None, if◌then◌else◌, nat_le, ◌==◌, ◌&&◌, codes}
use Rattle.std.specs.Prelude.{ℤ, pos}
use Rattle.std.specs.Option.{option_map}
use Rattle.std.specs.Str.{bytes_eq}
use Rattle.word_tables.specs.integers.Integers.{integer}
use Rattle.statuses.specs.declared.words.Row.{Row}
use Rattle.statuses.specs.declared.words.Command.{Command}
use Rattle.statuses.specs.declared.words.Command.TheVariants.{Print, Names, Check, Lift, Stress}

-- A word is plain if it isn't empty and doesn't begin with `-`.
abbrev pub is_plain_word : List ℕ → Bool
is_plain_word [] = false
is_plain_word (c ∷ cs) = not (c == 45)

abbrev pub all_plain : List (List ℕ) → Bool
all_plain [] = true
all_plain (w ∷ ws) = is_plain_word w && all_plain ws

-- A command's name, how many operands come after it, and whether any number more may. `stress` has
-- no row.
pub record CommandRow : Type 0 where
  pub name : List ℕ
  pub operands : ℕ
  pub more : Bool
  pub command : Command

-- the row that a row of the code's table shows
abbrev pub command_row : Row → CommandRow
command_row row =
    record { name = row.name.now; operands = row.operands; more = row.more; command = row.command }

-- The operands of `print` and `names` are SRC DRV THEORY GOAL, those of `check` SRC THEORY GOAL
-- DER, and those of `lift` SRC DRV THEORY GOAL REF...
abbrev pub command_rows : List CommandRow
command_rows =
    record { name = codes "print"; operands = 4; more = false; command = Print }
    ∷ record { name = codes "names"; operands = 4; more = false; command = Names }
    ∷ record { name = codes "check"; operands = 4; more = false; command = Check }
    ∷ record { name = codes "lift"; operands = 4; more = true; command = Lift }
    ∷ []

-- Whether so many operands may come after the row's command.
abbrev pub fits_row : CommandRow → ℕ → Bool
fits_row row n = if row.more then nat_le row.operands n else (row.operands == n)

-- the command of the first row with the name, if so many operands may come after it
abbrev pub command_among : List CommandRow → List ℕ → ℕ → Option Command
command_among [] name n = None
command_among (row ∷ rows) name n =
    if bytes_eq name row.name then (if fits_row row n then Some row.command else None)
    else command_among rows name n

-- an integer from 1 to 200
abbrev pub from_1_to_200 : Option ℤ → Option ℕ
from_1_to_200 (Some (pos n)) = if nat_le 1 n && nat_le n 200 then Some n else None
from_1_to_200 _ = None

-- N of `stress`: decimal digits without leading zeros
abbrev pub part_count : List ℕ → Option ℕ
part_count word = from_1_to_200 (integer word)

-- `stress` with its one operand
abbrev pub stress_of : List (List ℕ) → Option Command
stress_of (number ∷ []) = option_map Stress (part_count number)
stress_of _ = None

-- the command with this name and these operands
abbrev pub command_named : List ℕ → List (List ℕ) → Option Command
command_named name operands =
    if bytes_eq name (codes "stress") then stress_of operands else command_among command_rows name
    (length operands)

-- the command of the words: the program's name, a command and its operands
abbrev pub command_of : List (List ℕ) → Option Command
command_of (program ∷ name ∷ operands) =
    if is_plain_word name && all_plain operands then command_named name operands else None
command_of _ = None
