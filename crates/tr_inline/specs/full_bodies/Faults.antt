-- Why inlining makes nothing, in trees.
use Rattle.std.specs.Prelude.{◌≡◌, Bool, true, List}
use Rattle.trees.specs.Tree.{Tree}
use Rattle.tr_inline.specs.declared.full_bodies.fault.InlineFault.{InlineFault}
use Rattle.tr_inline.specs.declared.full_bodies.fault.InlineFault.TheVariants as fault
use Rattle.tr_inline.specs.full_bodies.Least.{HasLargeInstances}
use Rattle.tr_inline.specs.full_bodies.Arguments.{HasLargeArgument}

-- want of memory, or what would be made is large
abbrev pub IsFaultOf : Tree → InlineFault → Type 0
IsFaultOf e fault.Memory = Unit {0}
IsFaultOf e fault.Large = HasLargeInstances e

-- of an argument: its variable is used, and its image is large
abbrev pub IsArgumentFault : Bool → Tree → InlineFault → Type 0
IsArgumentFault used e fault.Memory = Unit {0}
IsArgumentFault used e fault.Large = (used ≡ true) × HasLargeInstances e

abbrev pub IsArgumentsFault : (Tree → Tree) → Tree → List Tree → InlineFault → Type 0
IsArgumentsFault f body ms fault.Memory = Unit {0}
IsArgumentsFault f body ms fault.Large = HasLargeArgument f body ms
