-- What a part of the run answers over a library, against its meaning.
use Rattle.std.specs.Prelude.{◌≡◌, ◌≤◌, ℕ, List, Option, Some, None, Result, Ok, Err, IfSome, Vec}
use Rattle.std.specs.declared.alloc.Global.{Global}
use Rattle.outside.specs.State.{Files, LibraryState, Rose}
use Rattle.statuses.specs.fault_order.Order.{refused, absent, unread, Stage, StageMeaning}
use Rattle.statuses.specs.declared.fault_order.faults.RunFault.{RunFault}
use Rattle.statuses.specs.declared.fault_order.faults.RunFault.TheVariants as run_fault

-- so many fetches can be read
abbrev pub Reaches : Option ℕ → ℕ → Type 0
Reaches None next = Unit {0}
Reaches (Some n) next = next ≤ n

-- the bytes of a result
abbrev pub result_bytes : {E : Type 0} → Result (Vec ℕ Global) E → Result (List ℕ) E
result_bytes (Ok bytes) = Ok bytes.items
result_bytes (Err e) = Err e

-- no count rose
pub record Still (old new : LibraryState) : Type 0 where
  pub faults : new.faults ≡ old.faults
  pub absents : new.absents ≡ old.absents

-- a file is absent
pub record OneAbsent (old new : LibraryState) : Type 0 where
  pub faults : new.faults ≡ old.faults
  pub later : old.absents ≤ new.absents
  pub rose : Rose old.absents new.absents

-- a fetch failed
pub record OneFault (old new : LibraryState) : Type 0 where
  pub absents : new.absents ≡ old.absents
  pub later : old.faults ≤ new.faults
  pub rose : Rose old.faults new.faults

-- the file with this number can't be read, and it is the one whose name the library refused
abbrev pub StopsAt : {A : Type 0} → StageMeaning A → ℕ → Option (List ℕ) → Files → Type 0
StopsAt meaning file refused_name files =
    (name : List ℕ) × meaning files (Some file) (Err (unread file name))
    × IfSome refused_name (λ its. its ≡ name)

-- The answer of a part that fetches files from number `start` on, and after Ok has fetched those
-- below `next`.
abbrev pub IsPartAnswer : {A : Type 0} → StageMeaning A → ℕ → (A → ℕ) → LibraryState → LibraryState
    → Result A RunFault → Type 0
IsPartAnswer meaning start next old new (Ok value) = Still old new × (start ≤ next value)
    × IfSome old.files (λ files. (limit : Option ℕ) → Reaches limit (next value)
    → meaning files limit (Ok value))
IsPartAnswer meaning start next old new (Err run_fault.Memory) = Still old new
IsPartAnswer meaning start next old new (Err (run_fault.Refused fault)) = Still old new
    × IfSome old.files (λ files. meaning files None (Err (refused fault)))
IsPartAnswer meaning start next old new (Err (run_fault.Absent file)) = OneAbsent old new
    × IfSome old.files (λ files. meaning files None (Err (absent file)))
IsPartAnswer meaning start next old new (Err (run_fault.ReadFault file)) =
    OneFault old new × (start ≤ file)
    × IfSome old.files (StopsAt meaning file new.refused_name)

-- The files stay, and the answer meets the meaning.
pub record Answers {A : Type 0} (meaning : StageMeaning A) (start : ℕ) (next : A → ℕ)
    (old new : LibraryState) (result : Result A RunFault) : Type 0 where
  pub files : new.files ≡ old.files
  pub meets : IsPartAnswer meaning start next old new result

-- The answer of a whole part: its value, or what stopped it.
abbrev pub IsWholeAnswer : {A : Type 0} → StageMeaning A → LibraryState → LibraryState
    → Result A RunFault → Type 0
IsWholeAnswer meaning old new (Ok value) =
    Still old new × IfSome old.files (λ files. meaning files None (Ok value))
IsWholeAnswer meaning old new (Err run_fault.Memory) = Still old new
IsWholeAnswer meaning old new (Err (run_fault.Refused fault)) =
    Still old new × IfSome old.files (λ files. meaning files None (Err (refused fault)))
IsWholeAnswer meaning old new (Err (run_fault.Absent file)) =
    OneAbsent old new × IfSome old.files (λ files. meaning files None (Err (absent file)))
IsWholeAnswer meaning old new (Err (run_fault.ReadFault file)) =
    OneFault old new × IfSome old.files (StopsAt meaning file new.refused_name)

pub record EndsAs {A : Type 0} (meaning : StageMeaning A) (old new : LibraryState)
    (result : Result A RunFault) : Type 0 where
  pub files : new.files ≡ old.files
  pub gives : IsWholeAnswer meaning old new result

-- the answer of a part that fetches nothing: a stage's, or no memory
abbrev pub IsStageAnswer : {A : Type 0} → Stage A → Result A RunFault → Type 0
IsStageAnswer stage (Ok value) = stage (Ok value)
IsStageAnswer stage (Err run_fault.Memory) = Unit {0}
IsStageAnswer stage (Err (run_fault.Refused fault)) = stage (Err (refused fault))
IsStageAnswer stage (Err (run_fault.Absent file)) = ⊥
IsStageAnswer stage (Err (run_fault.ReadFault file)) = ⊥
