-- Faults of what is too large.
use Rattle.std.specs.Prelude.{◌≡◌, IsErrAnd, IfErr, Result, Ok, Err}
use Rattle.std.proofs.Common.{sym, subst}
use Rattle.tasks.specs.trees.Tree.{Tree}
use Rattle.tasks.specs.Task.{TaskTree}
use Rattle.evidence.specs.declared.stage.StageFault.{StageFault}
use Rattle.evidence.specs.declared.stage.StageFault.TheVariants as fault
use Rattle.evidence.specs.Stages.{IsStageFault, stage_equation}
use Rattle.evidence.specs.changed_tasks.Limits.{IsLargeTask}
use Rattle.evidence.proofs.changed_tasks.Large.{large_refused}
use Rattle.walking.specs.declared.rewriting.formulas.FormulaScope.{FormulaScope}
use Rattle.walking.specs.rewriting.Faults.{IsLimitFault}
use Rattle.walking.specs.rewriting.Rewritten.{scoped_task, formulas_equation}

pub limit_weaker : (a b : Type 0) → (a → b) → (f : StageFault) → IsLimitFault a f → IsLimitFault b f
limit_weaker a b h fault.Memory x = tt
limit_weaker a b h (fault.Misplaced decl) x = absurd x
limit_weaker a b h fault.TooLarge x = h x

-- the fault of a stage whose only task is too large
pub stage_fault : (sc : FormulaScope) (g : TaskTree → Tree → Tree) (t : TaskTree) (f : StageFault) → IsLimitFault (IsLargeTask (scoped_task sc (g t) t)) f → IsStageFault (stage_equation (formulas_equation sc g) t) f
stage_fault sc g t fault.Memory x = tt
stage_fault sc g t (fault.Misplaced decl) x = absurd x
stage_fault sc g t fault.TooLarge x = large_refused (scoped_task sc (g t) t) x

-- a fault that is passed on
pub err_passed : {T : Type 0} (r : Result T StageFault) (e : StageFault) (Q : StageFault → Type 0) → IsErrAnd r (λ y. y ≡ e) → Q e → IfErr r Q
err_passed (Ok v) e Q h q = tt
err_passed (Err y) e Q h q = subst Q (sym h) q
