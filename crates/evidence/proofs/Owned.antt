-- What a valid task that is a draft's own gives: its locals and its goal are formulas of sequents.
use Rattle.std.proofs.Common.{All, sym, ap, subst}
use Rattle.std.proofs.lemmas.List.Elements.{All-weaker}
use Rattle.trees.specs.Tree.{Tree}
use Rattle.tasks.specs.declared.task.Task.{Task}
use Rattle.tasks.specs.Task.{TaskTree}
use Rattle.tasks.specs.Valid.{IsFormula, IsGroundFormula}
use Rattle.evidence.specs.Drafts.{DraftTree, AreFormulas, IsFormulaAt}
use Rattle.evidence.specs.Stages.{IsOwnTask}

ground_of : (t : TaskTree) (e : Tree) → IsFormula t t.params 0 e → IsGroundFormula t e
ground_of t e f = record { sort = f.sort; typed = f.typed; ground = f.variables }

pub own_locals : (d : DraftTree) (from : Task) → IsOwnTask d from → AreFormulas d from.locals
own_locals d from o =
    let ground : All (IsGroundFormula d.task) d.task.locals = All-weaker (IsFormula d.task d.task.params 0) (IsGroundFormula d.task) (ground_of d.task) d.task.locals o.valid.locals in
    record { held = o.held.locals; ground = subst (All (IsGroundFormula d.task)) (sym (ap (λ (t : TaskTree). t.locals) o.is)) ground }

pub own_goal : (d : DraftTree) (from : Task) → IsOwnTask d from → IsFormulaAt d from.goal
own_goal d from o =
    record { held = o.held.goal; ground = subst (IsGroundFormula d.task) (sym (ap (λ (t : TaskTree). t.goal) o.is)) (ground_of d.task d.task.goal o.valid.goal) }
