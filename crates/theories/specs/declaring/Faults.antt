-- Faults of a declaration as faults of its source, with the declaration's number.
use Rattle.std.specs.Prelude.{ℕ}
use Rattle.elaboration_laws.specs.checks.declared.decl_checks.fault.CheckFault.{CheckFault}
use Rattle.elaboration_laws.specs.checks.declared.decl_checks.fault.CheckFault.TheVariants as check
use Rattle.elab_groups.specs.declared.parts.ElabFault.{ElabFault}
use Rattle.elab_groups.specs.declared.parts.ElabFault.TheVariants as elab
use Rattle.theories.specs.declared.side_conditions.sides.SideFault.{SideFault}
use Rattle.theories.specs.declared.side_conditions.sides.SideFault.TheVariants as side
use Rattle.theory_states.specs.declared.fault.SourceFault.{SourceFault}
use Rattle.theory_states.specs.declared.fault.SourceFault.TheVariants as source

-- of its names and types
abbrev pub elaboration_fault : ElabFault → SourceFault
elaboration_fault elab.Memory = source.Memory
elaboration_fault (elab.Unknown d t) = source.Unknown d t
elaboration_fault (elab.Duplicate d t) = source.Duplicate d t
elaboration_fault (elab.WrongKind d t) = source.WrongKind d t
elaboration_fault (elab.Arity d t) = source.Arity d t
elaboration_fault (elab.Clash d k) = source.Clash d k
elaboration_fault (elab.Undetermined d t) = source.Undetermined d t

-- of its clauses, of its recursion and of the values of its types
abbrev pub check_fault : ℕ → CheckFault → SourceFault
check_fault d check.Memory = source.Memory
check_fault d (check.BadClause c) = source.BadClause d c
check_fault d (check.NotPositive c) = source.NotPositive d c
check_fault d check.NotStructural = source.NotStructural d
check_fault d check.GroupTooWide = source.GroupTooWide d
check_fault d check.Uninhabited = source.Uninhabited d

-- of its matches, and then of its checks
abbrev pub side_fault : ℕ → SideFault → SourceFault
side_fault d side.Memory = source.Memory
side_fault d (side.NotExhaustive t) = source.NotExhaustive d t
side_fault d (side.Check f) = check_fault d f
