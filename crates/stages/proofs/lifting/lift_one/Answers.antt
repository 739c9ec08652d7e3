use Rattle.std.proofs.Common.{rules, ◌≡◌, List, [], sym, subst}
use Rattle.tasks.specs.trees.Tree.{Tree}
use Rattle.tasks.specs.Task.{TaskTree}
use Rattle.tasks.specs.Meaning.{task_at, tasks_at}
use Rattle.tasks.specs.Valid.{IsValid}
use Rattle.evidence.specs.Stages.{Gives, parts_at}
use Rattle.stages.specs.transformations.Transformations.{task_equation_of}
use Rattle.stages.specs.Lifted.{HandedHasSequents}
use Rattle.stages.proofs.Copies.{copy_moved, begun_own, begun_task, begun_trees, derived_of}
use Rattle.stages.proofs.lifting.lift_one.Goals as goal

pub new-draft-requires-clause-valid : goal.new-draft-requires-clause-valid
new-draft-requires-clause-valid c =
    let same : c.in_ok-clone.field-0.value ≡ c.in_ok-own.own.value = search rules in
    let valid : IsValid (task_at c.args.store c.in_ok-clone.field-0.value) =
    subst IsValid (sym ((copy_moved c.args.task.now c.in_ok-own.own.value c.in_ok-clone.field-0.value same c.in_ok-own.ensures).tree c.args.store)) c.requires.valid in
    rw c.store.view_is valid

pub lift_draft-requires-clause-own : goal.lift_draft-requires-clause-own
lift_draft-requires-clause-own c =
    let begun : c.new-draft.result ≡ record { trees = c.args.store; task = task_at c.args.store c.in_ok-clone.field-0.value; steps = [] } = search rules in
    let same : c.in_ok-clone.field-0.value ≡ c.in_ok-own.own.value = search rules in
    let seen : c.deref.result.now ≡ c.in_ok-own.own.value = search rules in
    begun_own c.args.store c.args.task.now c.in_ok-own.own.value c.in_ok-clone.field-0.value c.deref.result.now c.new-draft.result same seen c.in_ok-own.ensures begun c.requires.held c.requires.valid

pub lift_draft-requires-clause-gives : goal.lift_draft-requires-clause-gives
lift_draft-requires-clause-gives c =
    let begun : c.new-draft.result ≡ record { trees = c.args.store; task = task_at c.args.store c.in_ok-clone.field-0.value; steps = [] } = search rules in
    let same : c.in_ok-clone.field-0.value ≡ c.in_ok-own.own.value = search rules in
    let t = begun_task c.args.store c.args.task.now c.in_ok-own.own.value c.in_ok-clone.field-0.value c.new-draft.result same c.in_ok-own.ensures begun in
    let s = begun_trees c.args.store c.in_ok-clone.field-0.value c.new-draft.result begun in
    subst (λ (z : List Tree). Gives (task_equation_of c.args.stage.now) c.new-draft.result.task (tasks_at z c.args.to.now.items)) (sym s)
    (subst (λ (z : TaskTree). Gives (task_equation_of c.args.stage.now) z (tasks_at c.args.store c.args.to.now.items)) (sym t) c.requires.gives)

pub returns : goal.returns
returns c =
    let begun : c.new-draft.result ≡ record { trees = c.args.store; task = task_at c.args.store c.in_ok-clone.field-0.value; steps = [] } = search rules in
    let same : c.in_ok-clone.field-0.value ≡ c.in_ok-own.own.value = search rules in
    let t = begun_task c.args.store c.args.task.now c.in_ok-own.own.value c.in_ok-clone.field-0.value c.new-draft.result same c.in_ok-own.ensures begun in
    let s = begun_trees c.args.store c.in_ok-clone.field-0.value c.new-draft.result begun in
    let d = c.lift_draft.new.draft in
    let into : c.into_parts-store.result.0 ≡ d.trees = c.into_parts-store.ensures.store in
    let seq : c.from_vec.result ≡ c.into_parts-store.result.1.items = c.from_vec.ensures in
    derived_of c.args.store (task_at c.args.store c.args.task.now) (parts_at c.args.store c.args.parts.now) c.new-draft.result d c.into_parts-store.result.0 c.into_parts-store.result.1.items c.from_vec.result s t
    c.lift_draft.ensures.grows into seq c.into_parts-store.ensures.held c.into_parts-store.ensures.steps c.into_parts-store.ensures.right c.in_ok-lift_draft.ensures.starts
    (subst (λ (z : List Tree). HandedHasSequents d.steps (parts_at z c.args.parts.now)) s c.in_ok-lift_draft.ensures.sequents)
