-- The calls of a library and of a sink in memory: how many were made, and which of them fail.
use Rattle.std.specs.Prelude.{◌≡◌, ◌+◌, ◌-◌, ◌^◌, ◌==◌, ℕ, List, [], ◌∷◌, Option, Some, None, Result, Ok, Err, IsSomeAnd, Contains, take, min, if◌then◌else◌, Vec}
use Rattle.std.specs.declared.alloc.Global.{Global}
use Rattle.outside.specs.State.{SinkState, Gains}
use Rattle.outside.specs.declared.memory.MemoryLibrary.{MemoryLibrary}
use Rattle.outside.specs.declared.memory.MemorySink.{MemorySink}
use Rattle.outside.specs.declared.traits.FetchFault.{FetchFault}
use Rattle.outside.specs.declared.traits.FetchFault.TheVariants as fetch_fault
use Rattle.outside.specs.declared.traits.PutFault.{PutFault}
use Rattle.outside.specs.declared.traits.PutFault.TheVariants as put_fault

-- the numbers of the library's calls that fail, counted from 0
abbrev pub failing_calls : MemoryLibrary → List ℕ
failing_calls m = m.failing.items

-- the number of its next call, which is how many were made
abbrev pub call_number : MemoryLibrary → ℕ
call_number m = m.calls

-- the numbers of the sink's calls that fail, each with how many bytes it takes
abbrev pub failing_puts : MemorySink → List (ℕ × ℕ)
failing_puts m = m.failing.items

-- the number of its next call
abbrev pub put_number : MemorySink → ℕ
put_number m = m.calls

-- the number after a call's, which stays at the end of its type
abbrev pub number_after : ℕ → ℕ
number_after n = min (n + 1) (2 ^ 64 - 1)

-- Call `number` of a library fails exactly where its number is among those that fail; any call may
-- want memory.
abbrev pub FailsByNumber : List ℕ → ℕ → Result (Vec ℕ Global) FetchFault → Type 0
FailsByNumber failing number (Ok bytes) = Contains failing number → ⊥
FailsByNumber failing number (Err fetch_fault.Memory) = Unit {0}
FailsByNumber failing number (Err fetch_fault.Absent) = Contains failing number → ⊥
FailsByNumber failing number (Err fetch_fault.Failed) = Contains failing number

-- how many bytes call `number` of a sink takes where it fails; the first pair with the number
-- counts
abbrev pub taken_by : List (ℕ × ℕ) → ℕ → Option ℕ
taken_by [] number = None
taken_by (pair ∷ pairs) number = if pair.0 == number then Some pair.1 else taken_by pairs number

-- Call `number` of a sink fails exactly where its number is among those that fail, and then takes
-- so many bytes; any call may want memory.
abbrev pub PutsByNumber : Option ℕ → SinkState → List ℕ → SinkState → Result Unit PutFault → Type 0
PutsByNumber taken old piece new (Ok _) = taken ≡ None
PutsByNumber taken old piece new (Err put_fault.Memory) = Unit {0}
PutsByNumber taken old piece new (Err put_fault.Failed) =
    IsSomeAnd taken (λ n. Gains old.written (take n piece) new.written)
