-- A task with recursive groups spelled out declares the same, and is valid.
use Rattle.std.specs.Prelude.{ℕ, List, All, Result}
use Rattle.tasks.specs.Task.{TaskTree}
use Rattle.tasks.specs.Valid.{IsValid}
use Rattle.evidence.specs.Stages.{Gives, Keeps}
use Rattle.declarations.specs.Equation.{rewrite_equation}
use Rattle.tr_define.specs.declarations.spelled_groups.Spelled.{spelling_rule}
use Rattle.tr_inline.specs.inlining.branch_equations.Branches.{recursion_facts}
use Rattle.inlining.proofs.branch_equations.Formulas.{recursions_spelling}
use Rattle.tr_define.specs.Kept.{spelled_keep}

-- each recursive group becomes its symbols, and then the equations of its members, by branches
-- where that applies
abbrev pub recursions_equation : TaskTree → Result (List TaskTree) ℕ
recursions_equation t = rewrite_equation (spelling_rule recursion_facts) t

pub recursions_keep : (t : TaskTree) (ts : List TaskTree) → IsValid t
    → Gives recursions_equation t ts → All (Keeps t) ts
recursions_keep t ts valid gives = spelled_keep recursion_facts recursions_spelling t ts valid gives
