-- The order of faults. Each stage is a relation between what it is given and its value or what
-- stops it; the first stop is answered.
use Rattle.std.specs.Prelude.{◌≡◌, ◌⊎◌, ℕ, Bool, true, List, Option, Some, None, Result, Ok, Err, take, length, if◌then◌else◌, ◌==◌, nat_lt}
use Rattle.outside.specs.State.{Files}
use Rattle.statuses.specs.declared.fault_order.faults.Fault.{Fault}
use Rattle.statuses.specs.declared.fault_order.faults.Fault.TheVariants.{TooLong}

-- what is in the way of a text: a fault, a file that isn't there, a file that can't be read, or
-- words without the shape of a command
pub data RunStop : Type 0 where
  refused : Fault → RunStop
  absent : ℕ → RunStop
  unread : ℕ → List ℕ → RunStop
  misused : RunStop

-- what a stage answers: whether this is its value, or what stops it
abbrev pub Stage : Type 0 → Type 1
Stage A = Result A RunStop → Type 0

-- the stage with this answer alone
abbrev pub Answer : {A : Type 0} → Result A RunStop → Stage A
Answer its r = r ≡ its

-- One stage after another. The first stop is answered.
abbrev pub After : {A B : Type 0} → Stage A → (A → Stage B) → Stage B
After {A} first second r =
    ((stop : RunStop) × first (Err stop) × (r ≡ Err stop)) ⊎ ((a : A) × first (Ok a) × second a r)

-- a stage has one answer at most
abbrev pub HasOneAnswer : {A : Type 0} → Stage A → Type 0
HasOneAnswer {A} stage = (r q : Result A RunStop) → stage r → stage q → r ≡ q

-- A meaning takes the files, and how many fetches can be read: the first n, or all.
abbrev pub StageMeaning : Type 0 → Type 1
StageMeaning A = Files → Option ℕ → Stage A

abbrev pub reads : Option ℕ → ℕ → Bool
reads None file = true
reads (Some n) file = nat_lt file n

abbrev pub if_there : ℕ → ℕ → Option (List ℕ) → Result (List ℕ) RunStop
if_there file most None = Err (absent file)
if_there file most (Some whole) = Ok (take most whole)

-- the front of a file, which is fetched with this number
abbrev pub fetched : ℕ → List ℕ → ℕ → Files → Option ℕ → Result (List ℕ) RunStop
fetched file name most files limit =
    if reads limit file then if_there file most (files name) else Err (unread file name)

abbrev pub if_short : ℕ → List ℕ → Result (List ℕ) RunStop
if_short file bytes = if length bytes == 67108865 then Err (refused (TooLong file)) else Ok bytes

-- a file that isn't too long
abbrev pub ShortFile : ℕ → List ℕ → StageMeaning (List ℕ)
ShortFile file name files limit =
    After (Answer (fetched file name 67108865 files limit)) (λ bytes. Answer (if_short file bytes))

-- a whole file, which is fetched with this number
abbrev pub WholeFile : ℕ → List ℕ → StageMeaning (List ℕ)
WholeFile file name files limit = Answer (fetched file name 18446744073709551615 files limit)
