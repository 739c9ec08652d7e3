-- Why a formula isn't made.
use Rattle.std.specs.Prelude.{◌<◌, ◌⊎◌}
use Rattle.trees.specs.Tree.{Tree, size, height}
use Rattle.tr_inline.specs.declared.full_bodies.fault.InlineFault.{InlineFault}
use Rattle.tr_inline.specs.declared.full_bodies.fault.InlineFault.TheVariants as fault

-- want of memory, or a formula of more than 2^20 nodes, or higher than 2,000
abbrev pub IsFormulaFault : Tree → InlineFault → Type 0
IsFormulaFault e fault.Memory = Unit {0}
IsFormulaFault e fault.Large = (1048576 < size e) ⊎ (2000 < height e)
