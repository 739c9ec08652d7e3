use Rattle.std.proofs.Common.{◌≡◌, List, subst, sym, ap, ◌∙◌}
use Rattle.trees.proofs.Nodes.{Grows_trans}
use Rattle.tasks.specs.Meaning.{task_at}
use Rattle.tasks.proofs.Growth.{task_later}
use Rattle.tr_inline.specs.declared.full_bodies.uses.FullBody.{FullBody}
use Rattle.tr_inline.specs.Inlined.{AreBodiesOf}
use Rattle.tr_inline.proofs.ByBodies.{ready_bodies}
use Rattle.tr_inline.proofs.Limits.{as_inlined, fault_inlined, stage_passed}
use Rattle.tr_inline.proofs.inline.InlineTransform.make.Goals as goal

pub scoped_tasks-requires : goal.scoped_tasks-requires
scoped_tasks-requires c =
    let s = c.args.store.now in
    let s1 = c.full_bodies.new.store in
    let task = c.args.task.now in
    let bodies = c.in_ok-bodies.bodies.items in
    let r = ready_bodies s1 task bodies c.in_ok-bodies.ensures.ready c.args.self.now.mode (task_at s task) (task_later s s1 c.in_ok-bodies.ensures.grows task c.requires.held) c.in_ok-bodies.ensures.rule in
    record { can = record { held = c.in_ok-bodies.ensures.ready.held; valid = c.in_ok-bodies.ensures.ready.valid; is_ready = subst (AreBodiesOf c.args.self.now.mode (task_at s1 task) s1) (sym c.as_slice.ensures.value) r } }

pub returns-clause-tasks : goal.returns-clause-tasks
returns-clause-tasks c =
    let s = c.args.store.now in
    let s1 = c.full_bodies.new.store in
    let task = c.args.task.now in
    sym (as_inlined c.args.self.now.mode c.mode_scope-scope.result c.mode_scope-scope.ensures (task_at s task) (task_at s1 task) (task_later s s1 c.in_ok-bodies.ensures.grows task c.requires.held)) ∙ c.in_ok-made.ensures.tasks

pub returns-in_err-made-clause-fault : goal.returns-in_err-made-clause-fault
returns-in_err-made-clause-fault c =
    let s = c.args.store.now in
    let s1 = c.full_bodies.new.store in
    let task = c.args.task.now in
    stage_passed c.from_residual-in_err-made.result c.in_err-made.field-0.0 _ c.from_residual-in_err-made.ensures.1
    (fault_inlined c.args.self.now.mode c.mode_scope-scope.result c.mode_scope-scope.ensures (task_at s task) (task_at s1 task) (task_later s s1 c.in_ok-bodies.ensures.grows task c.requires.held) c.in_err-made.field-0.0 c.in_err-made.ensures.fault)
