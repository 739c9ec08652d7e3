-- The words of the program: its name, a file, and a fault as its line has it.
use Rattle.std.specs.Prelude.{ℕ, ◌+◌, ◌*◌, ◌-◌, ◌≡◌, nat_le, nat_lt, ◌&&◌, if◌then◌else◌, List, [], ◌∷◌, ◌++◌, get_or, Option, Some, None, IsSome, IfSome, Result, Ok, Err, Vec}
use Rattle.std.specs.Option.{option_and_then}
use Rattle.std.specs.declared.alloc.Global.{Global}
use Rattle.outside.specs.State.{LibraryState, IsFront, Rose}
use Rattle.statuses.specs.declared.explain.words.ExplainFault.{ExplainFault}
use Rattle.statuses.specs.declared.explain.words.ExplainFault.TheVariants.{Memory, Usage, Absent, ReadFault}
use Rattle.statuses.specs.explain.Message.{row_for, Explains}

-- the number of decimal digits that follow those of n, below 2^64
abbrev pub number_after_digits : ℕ → List ℕ → Option ℕ
number_after_digits n [] = Some n
number_after_digits n (c ∷ cs) =
    if (nat_le 48 c && nat_le c 57)
    && nat_lt (n * 10 + (c - 48)) 18446744073709551616 then number_after_digits
    (n * 10 + (c - 48)) cs else None

-- the number that a word writes in decimal
abbrev pub decimal_value : List ℕ → Option ℕ
decimal_value [] = None
decimal_value (c ∷ cs) = number_after_digits 0 (c ∷ cs)

-- the numbers of words, after earlier ones
abbrev pub numbers_from : List ℕ → List (List ℕ) → Option (List ℕ)
numbers_from ns [] = Some ns
numbers_from ns (w ∷ ws) = option_and_then (λ n. numbers_from (ns ++ n ∷ []) ws) (decimal_value w)

-- the fault of the words
abbrev pub fault_in_words : List (List ℕ) → Option (List ℕ)
fault_in_words (program ∷ file ∷ numbers) = numbers_from [] numbers
fault_in_words _ = None

-- the file of the words
abbrev pub file_in_words : List (List ℕ) → List ℕ
file_in_words words = get_or words 1 []

abbrev pub bytes_of : {E : Type 0} → Result (Vec ℕ Global) E → Result (List ℕ) E
bytes_of (Ok bytes) = Ok bytes.items
bytes_of (Err e) = Err e

-- No fetch failed: neither count has changed.
abbrev pub CountsStay : LibraryState → LibraryState → Type 0
CountsStay old new = (new.faults ≡ old.faults) × (new.absents ≡ old.absents)

-- What a fault in a file comes to: the message over the file's bytes, or why there is none. A fetch
-- that failed is what is told.
abbrev pub FileGives : List ℕ → List ℕ → LibraryState → LibraryState
    → Result (List ℕ) ExplainFault → Type 0
FileGives name fault old new (Ok text) = CountsStay old new
    × ((bytes : List ℕ) × IfSome old.files
    (λ files. IsFront (files name) 18446744073709551615 bytes)
    × Explains name bytes fault (Some text))
FileGives name fault old new (Err Memory) = CountsStay old new
FileGives name fault old new (Err Usage) = CountsStay old new × (row_for fault ≡ None)
FileGives name fault old new (Err Absent) =
    (new.faults ≡ old.faults) × IsSome (row_for fault) × Rose old.absents new.absents
FileGives name fault old new (Err ReadFault) =
    (new.absents ≡ old.absents) × IsSome (row_for fault) × Rose old.faults new.faults

abbrev pub IsMisused : Result (List ℕ) ExplainFault → Type 0
IsMisused (Err Usage) = Unit {0}
IsMisused (Err Memory) = Unit {0}
IsMisused _ = ⊥

abbrev pub GivesBy : Option (List ℕ) → List ℕ → LibraryState → LibraryState
    → Result (List ℕ) ExplainFault → Type 0
GivesBy None name old new r = CountsStay old new × IsMisused r
GivesBy (Some fault) name old new r = FileGives name fault old new r

-- what the words come to
abbrev pub GivesWords : List (List ℕ) → LibraryState → LibraryState
    → Result (List ℕ) ExplainFault → Type 0
GivesWords words old new r = GivesBy (fault_in_words words) (file_in_words words) old new r
