use Rattle.std.proofs.Common.{◌≡◌, List, map, sym, subst}
use Rattle.std.proofs.lemmas.Result.{IfOk-weaker}
use Rattle.tasks.specs.Task.{TaskTree}
use Rattle.tasks.specs.Meaning.{task_at}
use Rattle.tasks.specs.Valid.{IsValid}
use Rattle.tasks.proofs.Growth.{task_later, task_held_later}
use Rattle.rules.specs.declared.rule.Step.{Step}
use Rattle.rules.specs.Meaning.{steps_at, StepsHeld}
use Rattle.step_writing.specs.kernel.Right.{Closes}
use Rattle.stages.specs.evidence.Stages.{parts_at}
use Rattle.stages.specs.declared.transformations.transformation.Transformation.{Transformation}
use Rattle.stages.specs.transformations.Transformations.{equation_of}
use Rattle.stages.specs.Levels.{IsCarried, carried_from}
use Rattle.stages.specs.Lifted.{HandedHasSequents}
use Rattle.stages.proofs.CarriedTasks.{carried_is}
use Rattle.tasks.specs.Words.{NamesAreWords}
use Rattle.program.proofs.Lifting.{lifted_of}
use Rattle.program.proofs.derivation.lifted_text.Goals as goal

pub lift-requires-clause-carried : goal.lift-requires-clause-carried
lift-requires-clause-carried c =
    let s = c.args.store in
    let p = c.args.refuted.staged in
    let is = c.requires.refuted.staged in
    let own : carried_from s p.carried ≡ task_at s c.args.task.now = carried_is (map equation_of p.stages.items) s (task_at s c.args.task.now) p.carried is in
    subst (λ (l : List Transformation). IsCarried (map equation_of l) s (carried_from s p.carried) p.carried.levels.items p.carried.tasks.items) (sym c.deref.ensures.value)
    (subst (λ (z : TaskTree). IsCarried (map equation_of p.stages.items) s z p.carried.levels.items p.carried.tasks.items) (sym own) is)

pub write_derivation-requires-clause-task : goal.write_derivation-requires-clause-task
write_derivation-requires-clause-task c = task_held_later c.args.store c.in_ok-derived.derived.store c.in_ok-derived.ensures.grows c.args.task.now c.requires.held

pub write_derivation-requires-clause-valid : goal.write_derivation-requires-clause-valid
write_derivation-requires-clause-valid c = subst IsValid (sym (task_later c.args.store c.in_ok-derived.derived.store c.in_ok-derived.ensures.grows c.args.task.now c.requires.held)) c.requires.valid

pub write_derivation-requires-clause-names : goal.write_derivation-requires-clause-names
write_derivation-requires-clause-names c = subst NamesAreWords (sym (task_later c.args.store c.in_ok-derived.derived.store c.in_ok-derived.ensures.grows c.args.task.now c.requires.held)) c.requires.names

pub write_derivation-requires-clause-held : goal.write_derivation-requires-clause-held
write_derivation-requires-clause-held c = subst (StepsHeld c.in_ok-derived.derived.store) (sym c.as_slice.ensures) c.in_ok-derived.ensures.held

pub write_derivation-requires-clause-closes : goal.write_derivation-requires-clause-closes
write_derivation-requires-clause-closes c =
    let s1 = c.in_ok-derived.derived.store in
    let own = carried_is (map equation_of c.args.refuted.staged.stages.items) c.args.store (task_at c.args.store c.args.task.now) c.args.refuted.staged.carried c.requires.refuted.staged in
    let derives = subst (λ (z : TaskTree). Closes z (steps_at s1 c.in_ok-derived.derived.steps)) own c.in_ok-derived.ensures.closes in
    let closes = subst (λ (z : List Step). Closes (task_at c.args.store c.args.task.now) (steps_at s1 z)) (sym c.as_slice.ensures) derives in
    subst (λ (z : TaskTree). Closes z (steps_at s1 c.as_slice.result.now)) (sym (task_later c.args.store s1 c.in_ok-derived.ensures.grows c.args.task.now c.requires.held)) closes

pub returns : goal.returns
returns c =
    let s1 = c.in_ok-derived.derived.store in
    let t = task_at c.args.store c.args.task.now in
    let handed = parts_at c.args.store c.args.refuted.handed.items in
    let same = task_later c.args.store s1 c.in_ok-derived.ensures.grows c.args.task.now c.requires.held in
    let sequents = subst (λ (z : List Step). HandedHasSequents (steps_at s1 z) handed) (sym c.as_slice.ensures) c.in_ok-derived.ensures.sequents in
    IfOk-weaker c.write_derivation.result _ _ (λ v s. lifted_of t (task_at s1 c.args.task.now) (steps_at s1 c.as_slice.result.now) handed v.items same sequents s) c.write_derivation.ensures.reads_back
