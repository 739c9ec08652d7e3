use Rattle.std.proofs.Common.{List, ◌∷◌, [], sym, ap, subst, ◌∙◌}
use Rattle.tasks.specs.Task.{TaskTree}
use Rattle.tasks.specs.Valid.{IsValid}
use Rattle.tr_algebraic.specs.algebraic_tasks.Plain.{task_with_laws}
use Rattle.tr_algebraic.proofs.Composed.{first_at, first_there}
use Rattle.tr_algebraic.proofs.making.with_laws.Goals as goal

pub bounds-plain-0 : goal.bounds-plain-0
bounds-plain-0 c = first_there c.args.store.now c.args.plain.now c.requires.one.0 c.requires.one.1

pub tasks_with_laws-requires-clause-held : goal.tasks_with_laws-requires-clause-held
tasks_with_laws-requires-clause-held c = (first_at c.args.store.now c.args.plain.now c.index-plain-0.result c.requires.one.0 c.requires.one.1 c.index-plain-0.is c.requires.held).0

pub tasks_with_laws-requires-clause-valid : goal.tasks_with_laws-requires-clause-valid
tasks_with_laws-requires-clause-valid c =
    subst IsValid (sym (first_at c.args.store.now c.args.plain.now c.index-plain-0.result c.requires.one.0 c.requires.one.1 c.index-plain-0.is c.requires.held).1) c.requires.one.2

pub returns-clause-tasks : goal.returns-clause-tasks
returns-clause-tasks c = λ u e.
    c.in_ok-made.ensures.tasks ∙ ap (λ (t : TaskTree). task_with_laws t ∷ []) (first_at c.args.store.now c.args.plain.now c.index-plain-0.result u e c.index-plain-0.is c.requires.held).1
