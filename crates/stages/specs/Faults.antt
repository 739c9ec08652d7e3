-- What the faults of this crate say.
use Rattle.std.specs.Prelude.{◌≡◌, ℕ, Result, Err}
use Rattle.evidence.specs.Stages.{Refusal}
use Rattle.evidence.specs.Stages as refusal
use Rattle.evidence.specs.declared.stage.StageFault.{StageFault}
use Rattle.evidence.specs.declared.stage.StageFault.TheVariants as stage_fault
use Rattle.stages.specs.declared.fault.CarryFault.{CarryFault}
use Rattle.stages.specs.declared.fault.CarryFault.TheVariants as fault
use Rattle.stages.specs.Carried.{StageRefusal}

-- the fault of a transformation that is the stage with this number
abbrev pub fault_at : ℕ → StageFault → CarryFault
fault_at n stage_fault.Memory = fault.Memory
fault_at n (stage_fault.Misplaced decl) = fault.Misplaced n decl
fault_at n stage_fault.TooLarge = fault.TooLarge n

abbrev pub refusal_at : ℕ → Refusal → StageRefusal
refusal_at n r = record { stage = n; refusal = r }

-- want of memory, or the first refusal
abbrev pub IsCarryFault : {A : Type 0} → Result A StageRefusal → CarryFault → Type 0
IsCarryFault said fault.Memory = Unit {0}
IsCarryFault said (fault.Misplaced stage decl) =
    said ≡ Err (refusal_at stage (refusal.Misplaced decl))
IsCarryFault said (fault.TooLarge stage) = said ≡ Err (refusal_at stage refusal.TooLarge)
