-- What a run comes to. Whatever source, driver and goal the program accepts, what it prints is the
-- goal's task carried through the driver's transformations by their equations; handed, for each
-- printed problem, a file that refutes it in the calculus, it writes a derivation of the goal from
-- the goal's own theory; every other file is refused at its first wrong line, every other source
-- for its first named fault. `stress` writes what `lift` comes to over files that it makes. What
-- the words and the files ask for, and the order of faults, is `AnswerOf`; here is which status
-- comes of it, and what the sinks gain.
use Rattle.std.specs.Prelude.{◌≡◌, ◌≢◌, ◌<◌, ◌⊎◌, ℕ, IfSome, List, None, Result, Ok, Err}
use Rattle.statuses.specs.outside.State.{LibraryState, SinkState, Gains, GainsPrefix, Rose}
use Rattle.statuses.specs.fault_order.Order.{RunStop, refused, absent, unread, misused}
use Rattle.statuses.specs.fault_order.Answers.{Still, OneAbsent, OneFault, StopsAt}
use Rattle.statuses.specs.Words.{command_of}
use Rattle.statuses.specs.Lines.{status_line}
use Rattle.statuses.specs.declared.status.Status.{Status}
use Rattle.statuses.specs.declared.status.Status.TheVariants as status
use Rattle.program.specs.Order.{AnswerOf}

-- the library and both sinks, before a run or after it
pub record Outside : Type 0 where
  pub library : LibraryState
  pub out : SinkState
  pub err : SinkState

abbrev pub outside : LibraryState → SinkState → SinkState → Outside
outside library out err = record { library = library; out = out; err = err }

-- The words and the files ask for this text, or this is first in its way.
abbrev pub Asks : List (List ℕ) → LibraryState → Result (List ℕ) RunStop → Type 0
Asks words library r = IfSome library.files (λ files. AnswerOf words files None r)

-- The file with this number can't be read, and nothing is in the way before it.
abbrev pub IsUnread : List (List ℕ) → LibraryState → LibraryState → ℕ → Type 0
IsUnread words before after file =
    IfSome before.files (StopsAt (AnswerOf words) file after.refused_name)

-- the sink took the whole text, and none of its calls failed
abbrev pub TakesText : SinkState → List ℕ → SinkState → Type 0
TakesText before text after =
    Gains before.written text after.written × (after.faults ≡ before.faults)

-- what is due: a text, or the line of a status; the line of no memory is empty
abbrev pub IsDue : List (List ℕ) → LibraryState → LibraryState → Result (List ℕ) Status → Type 0
IsDue words before after (Ok text) = Still before after × Asks words before (Ok text)
IsDue words before after (Err (status.Refused fault)) =
    Still before after × Asks words before (Err (refused fault))
IsDue words before after (Err (status.Absent file)) =
    OneAbsent before after × Asks words before (Err (absent file))
IsDue words before after (Err (status.ReadFault file)) =
    OneFault before after × IsUnread words before after file
IsDue words before after (Err status.Usage) = Still before after × (command_of words ≡ None)
IsDue words before after (Err status.Memory) = Still before after
IsDue words before after (Err status.Done) = ⊥
IsDue words before after (Err status.WriteFault) = ⊥

-- a prefix of what is due is gained by its sink, and nothing by the other
abbrev pub GainsPart : Result (List ℕ) Status → Outside → Outside → Type 0
GainsPart (Ok text) a b = GainsPrefix a.out.written text b.out.written × (b.err ≡ a.err)
GainsPart (Err due) a b =
    (b.out ≡ a.out) × GainsPrefix a.err.written (status_line due) b.err.written

-- the sink of a text, or of a line, has failed
abbrev pub SinkFails : {E : Type 0} → Result (List ℕ) E → Outside → Outside → Type 0
SinkFails (Ok text) a b = Rose a.out.faults b.out.faults
SinkFails (Err e) a b = Rose a.err.faults b.err.faults

-- Each status comes only so.
abbrev pub Cause : List (List ℕ) → Outside → Outside → Status → Type 0
Cause words a b status.Done =
    Still a.library b.library × (text : List ℕ) × Asks words a.library (Ok text)
    × TakesText a.out text b.out × (b.err ≡ a.err)
Cause words a b (status.Refused fault) =
    Still a.library b.library × Asks words a.library (Err (refused fault)) × (b.out ≡ a.out)
    × TakesText a.err (status_line (status.Refused fault)) b.err
Cause words a b status.Usage =
    Still a.library b.library × (command_of words ≡ None) × (b.out ≡ a.out)
    × TakesText a.err (status_line status.Usage) b.err
Cause words a b (status.Absent file) =
    OneAbsent a.library b.library × Asks words a.library (Err (absent file)) × (b.out ≡ a.out)
    × TakesText a.err (status_line (status.Absent file)) b.err
Cause words a b (status.ReadFault file) =
    OneFault a.library b.library × IsUnread words a.library b.library file × (b.out ≡ a.out)
    × TakesText a.err (status_line (status.ReadFault file)) b.err
Cause words a b status.Memory =
    (due : Result (List ℕ) Status) × IsDue words a.library b.library due × GainsPart due a b
Cause words a b status.WriteFault =
    (due : Result (List ℕ) Status) × (due ≢ Err status.Memory) × IsDue words a.library b.library due
    × GainsPart due a b × SinkFails due a b

-- the status of a text, or of what is in its way
abbrev pub status_of : Result (List ℕ) RunStop → Status
status_of (Ok text) = status.Done
status_of (Err (refused fault)) = status.Refused fault
status_of (Err (absent file)) = status.Absent file
status_of (Err (unread file name)) = status.ReadFault file
status_of (Err misused) = status.Usage

-- Where its sink doesn't fail, this status comes, or there is no memory.
abbrev pub Comes : Result (List ℕ) RunStop → Outside → Outside → Status → Type 0
Comes r a b its = ¬ SinkFails r a b → (its ≡ status_of r) ⊎ (its ≡ status.Memory)

-- Where no fetch fails, the status comes of whatever the words and the files ask for.
abbrev pub Due : List (List ℕ) → Outside → Outside → Status → Type 0
Due words a b its = IfSome a.library.files
    (λ files. ¬ Rose a.library.faults b.library.faults → (r : Result (List ℕ) RunStop)
    → AnswerOf words files None r → Comes r a b its)

-- Words without the shape of a command are a misuse.
abbrev pub UsageDue : List (List ℕ) → Outside → Outside → Status → Type 0
UsageDue words a b its = command_of words ≡ None → ¬ Rose a.err.faults b.err.faults
    → (its ≡ status.Usage) ⊎ (its ≡ status.Memory)

-- Where the library's count of failures rose, a file can't be read.
abbrev pub FaultDue : Outside → Outside → Status → Type 0
FaultDue a b its = a.library.faults < b.library.faults
    → ((file : ℕ) × (its ≡ status.ReadFault file))
    ⊎ ((its ≡ status.Memory) ⊎ ((its ≡ status.WriteFault) × Rose a.err.faults b.err.faults))
