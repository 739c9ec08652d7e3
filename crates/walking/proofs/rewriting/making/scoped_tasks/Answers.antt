use Rattle.std.specs.Prelude.{Ok}
use Rattle.std.proofs.Common.{List, sym, ap}
use Rattle.tasks.specs.Task.{TaskTree}
use Rattle.tasks.specs.Meaning.{task_at}
use Rattle.evidence.proofs.task_parts.One.{one_tree, one_held}
use Rattle.walking.proofs.rewriting.Faults.{err_passed, stage_fault}
use Rattle.walking.proofs.rewriting.making.scoped_tasks.Goals as goal

pub returns-in_err-made-clause-fault : goal.returns-in_err-made-clause-fault
returns-in_err-made-clause-fault g c =
    err_passed c.from_residual.result c.in_err-made.field-0.0 _ c.from_residual.ensures.1 (stage_fault c.args.scope (g.F.RewriteFormulas.function c.args.rewrite.now) (task_at c.args.store.now c.args.task.now) c.in_err-made.field-0.0 c.in_err-made.ensures.fault)

pub returns-clause-held : goal.returns-clause-held
returns-clause-held g c = one_held _ _ _ c.in_ok-tasks.ensures c.in_ok-made.ensures.held

pub returns-clause-tasks : goal.returns-clause-tasks
returns-clause-tasks g c = ap (λ (z : List TaskTree). Ok z) (sym (one_tree _ _ _ _ c.in_ok-tasks.ensures c.in_ok-made.ensures.task))
