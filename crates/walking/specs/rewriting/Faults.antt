-- Why a formula, or what is made of several, can't be made.
use Rattle.evidence.specs.declared.stage.StageFault.{StageFault}
use Rattle.evidence.specs.declared.stage.StageFault.TheVariants as fault

-- want of memory, or that what is to be made is too large
abbrev pub IsLimitFault : Type 0 → StageFault → Type 0
IsLimitFault large fault.Memory = Unit {0}
IsLimitFault large (fault.Misplaced decl) = ⊥
IsLimitFault large fault.TooLarge = large
