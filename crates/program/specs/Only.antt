-- What a command answers is the only answer that is due.
use Rattle.std.specs.Prelude.{◌≡◌, None, Result, Ok, Err, IfSome}
use Rattle.statuses.specs.outside.State.{Files, LibraryState}
use Rattle.statuses.specs.fault_order.Order.{RunStop, refused, absent, StageMeaning}
use Rattle.statuses.specs.declared.fault_order.faults.RunFault.{RunFault}
use Rattle.statuses.specs.declared.fault_order.faults.RunFault.TheVariants as run_fault

-- over these files a meaning has this answer at most
abbrev pub IsDueAlone : {A : Type 0} → StageMeaning A → Result A RunStop → Files → Type 0
IsDueAlone {A} meaning its files = (r : Result A RunStop) → meaning files None r → r ≡ its

-- No other answer is due than a call's, which may be want of memory or a file that can't be read
-- whatever is due.
abbrev pub IsOnlyAnswer : {A : Type 0} → StageMeaning A → LibraryState → Result A RunFault → Type 0
IsOnlyAnswer meaning old (Ok value) = IfSome old.files (IsDueAlone meaning (Ok value))
IsOnlyAnswer meaning old (Err run_fault.Memory) = Unit {0}
IsOnlyAnswer meaning old (Err (run_fault.Refused fault)) =
    IfSome old.files (IsDueAlone meaning (Err (refused fault)))
IsOnlyAnswer meaning old (Err (run_fault.Absent file)) =
    IfSome old.files (IsDueAlone meaning (Err (absent file)))
IsOnlyAnswer meaning old (Err (run_fault.ReadFault file)) = Unit {0}

-- The same where values are free: beside a value no stop is due, and beside a stop no other answer.
abbrev pub IsOnlyStop : {A : Type 0} → StageMeaning A → LibraryState → Result A RunFault → Type 0
IsOnlyStop meaning old (Ok value) =
    IfSome old.files (λ files. (stop : RunStop) → ¬ meaning files None (Err stop))
IsOnlyStop meaning old (Err fault) = IsOnlyAnswer meaning old (Err fault)
