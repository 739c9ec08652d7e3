use Rattle.std.proofs.Common.{Result, Err, sym, subst}
use Rattle.surface.specs.SurfaceDeclarations.{file_of}
use Rattle.theories.specs.theory_states.goal_tasks.Theories.{TheoriesTree}
use Rattle.statuses.specs.declared.fault_order.faults.RunFault.{RunFault}
use Rattle.statuses.specs.fault_order.Answers.{IsStageAnswer}
use Rattle.program.specs.source_goals.Order.{Declares}
use Rattle.program.proofs.source_goals.Faults.{no_theories}
use Rattle.program.proofs.source_goals.source.theories_of.Goals as goal

pub returns-in-Ok-clause-declares : goal.returns-in-Ok-clause-declares
returns-in-Ok-clause-declares c = c.in-Ok.ensures.ok

pub returns-in-Err-clause-declares : goal.returns-in-Err-clause-declares
returns-in-Err-clause-declares c =
    let file = file_of c.args.file.now in
    let r : RunFault → Result TheoriesTree RunFault = λ e. Err e in
    subst (λ (e : RunFault). IsStageAnswer (Declares file) (r e)) (sym c.source_fault.ensures) (no_theories file c.in-Err.fault c.in-Err.ensures.err)
