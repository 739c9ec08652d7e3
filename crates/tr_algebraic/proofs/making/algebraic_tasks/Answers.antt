use Rattle.std.proofs.Common.{List, ◌∷◌, [], ◌≡◌, sym, ap, subst, ◌∙◌}
use Rattle.tasks.specs.declared.task.Task.{Task}
use Rattle.tasks.specs.Task.{TaskTree}
use Rattle.tasks.specs.Meaning.{task_at, tasks_at}
use Rattle.tasks.specs.Valid.{IsValid}
use Rattle.walking.proofs.rewriting.Faults.{err_passed}
use Rattle.tr_algebraic.proofs.Composed.{refused_is, plain_fault, plain_alone, is_answer}
use Rattle.tr_algebraic.proofs.making.algebraic_tasks.Goals as goal

pub returns-in_err-plain-in-None-clause-fault : goal.returns-in_err-plain-in-None-clause-fault
returns-in_err-plain-in-None-clause-fault c =
    let s = c.args.store.now in
    let none = sym c.in-None.is ∙ refused_is s c.args.task.now.decls c.as_slice.result.now c.refused_place.result c.as_slice.ensures c.refused_place.ensures in
    err_passed c.from_residual.result c.in_err-plain-in-None.field-0.0 _ c.from_residual.ensures.1 (plain_fault (task_at s c.args.task.now) none c.in_err-plain-in-None.field-0.0 c.in_err-plain-in-None.ensures.fault)

pub with_laws-requires-clause-one : goal.with_laws-requires-clause-one
with_laws-requires-clause-one c =
    let s = c.args.store.now in
    let s1 = c.apply.new.store in
    let none = sym c.in-None.is ∙ refused_is s c.args.task.now.decls c.as_slice.result.now c.refused_place.result c.as_slice.ensures c.refused_place.ensures in
    subst (λ (ts : List Task). (u : TaskTree) × (tasks_at s1 ts ≡ u ∷ []) × IsValid u) (sym c.deref.ensures.value)
    (plain_alone (task_at s c.args.task.now) none c.requires.valid (tasks_at s1 c.in_ok-plain-in-None.plain.items) c.in_ok-plain-in-None.ensures.tasks)

pub returns-in_ok-made-in-None-clause-tasks : goal.returns-in_ok-made-in-None-clause-tasks
returns-in_ok-made-in-None-clause-tasks c =
    let s = c.args.store.now in
    let s1 = c.apply.new.store in
    let none = sym c.in-None.is ∙ refused_is s c.args.task.now.decls c.as_slice.result.now c.refused_place.result c.as_slice.ensures c.refused_place.ensures in
    is_answer (task_at s c.args.task.now) none (tasks_at s1 c.in_ok-plain-in-None.plain.items) (tasks_at c.with_laws.new.store c.in_ok-made-in-None.made.items) c.in_ok-plain-in-None.ensures.tasks
    (λ u e. c.in_ok-made-in-None.ensures.tasks u (ap (tasks_at s1) c.deref.ensures.value ∙ e))
