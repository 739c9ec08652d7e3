-- The problems of the parts of a goal, and their first fault. Parts count from 1.
use Rattle.std.specs.Prelude.{◌≡◌, ℕ, ◌+◌, List, [], ◌∷◌, map, All, Option, Some, None}
use Rattle.tasks.specs.trees.Tree.{Tree}
use Rattle.tasks.specs.Task.{TaskTree}
use Rattle.drivers.specs.declared.driver_parts.driver.Driver.{Driver}
use Rattle.printed_problems.specs.declared.fault.PrintFault.{PrintFault}
use Rattle.printed_problems.specs.declared.fault.PrintFault.TheVariants as print_fault
use Rattle.printed_problems.specs.declared.printed.Problem.{Problem}
use Rattle.printed_problems.specs.Faults.{print_fault}
use Rattle.printed_problems.specs.Problems.{problem_of}
use Rattle.printed_problems.specs.Made.{ProblemHeld, problem_at}
use Rattle.part_texts.specs.declared.fault.PartFault.{PartFault}
use Rattle.part_texts.specs.declared.fault.PartFault.TheVariants as part_fault

-- the fault of the part with this number
abbrev pub fault_of : ℕ → PrintFault → PartFault
fault_of part print_fault.Memory = part_fault.Memory
fault_of part (print_fault.Polymorphic decl) = part_fault.Polymorphic part decl
fault_of part (print_fault.Unprintable decl) = part_fault.Unprintable part decl
fault_of part (print_fault.NoSyntax symbol) = part_fault.NoSyntax part symbol

abbrev pub part_fault_at : ℕ → Option PrintFault → Option PartFault
part_fault_at part None = None
part_fault_at part (Some fault) = Some (fault_of part fault)

abbrev pub or_later : Option PartFault → Option PartFault → Option PartFault
or_later None later = later
or_later (Some fault) later = Some fault

-- the first fault of parts, the first of which has this number
abbrev pub first_fault : Driver → ℕ → List TaskTree → Option PartFault
first_fault d part [] = None
first_fault d part (t ∷ ts) =
    or_later (part_fault_at part (print_fault d t)) (first_fault d (part + 1) ts)

-- want of memory, or the fault that is due
abbrev pub IsPartFault : Option PartFault → PartFault → Type 0
IsPartFault due part_fault.Memory = Unit {0}
IsPartFault due (part_fault.Polymorphic part decl) = due ≡ Some (part_fault.Polymorphic part decl)
IsPartFault due (part_fault.Unprintable part decl) = due ≡ Some (part_fault.Unprintable part decl)
IsPartFault due (part_fault.NoSyntax part symbol) = due ≡ Some (part_fault.NoSyntax part symbol)

-- the problems of tasks under a driver, in a store
pub record AreProblems (s : List Tree) (d : Driver) (ts : List TaskTree)
    (problems : List Problem) : Type 0 where
  pub held : All (ProblemHeld s) problems
  pub are : map (problem_at s) problems ≡ map (problem_of d) ts
