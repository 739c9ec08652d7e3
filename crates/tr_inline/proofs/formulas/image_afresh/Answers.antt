use Rattle.std.proofs.Common.{◌≡◌, List, subst, sym, ap, ◌∙◌}
use Rattle.trees.specs.Node.{tree_at}
use Rattle.tasks.specs.Meaning.{task_at}
use Rattle.tasks.proofs.Growth.{task_later}
use Rattle.trees.proofs.Nodes.{Grows_trans}
use Rattle.tr_inline.specs.declared.full_bodies.uses.FullBody.{FullBody}
use Rattle.tr_inline.specs.full_bodies.FullBodies.{AreReady}
use Rattle.tr_inline.specs.Inlined.{AreBodiesOf}
use Rattle.tr_inline.proofs.ByBodies.{ready_bodies, formula_in_later, same_formula, fault_later}
use Rattle.tr_inline.proofs.Limits.{fault_passed}
use Rattle.tr_inline.proofs.formulas.image_afresh.Goals as goal

pub image_by_bodies-requires-clause-ready : goal.image_by_bodies-requires-clause-ready
image_by_bodies-requires-clause-ready c = subst (AreReady c.full_bodies.new.store c.args.task.now) (sym c.deref.ensures.value) c.in_ok-bodies.ensures.ready

pub image_by_bodies-requires-clause-bodies : goal.image_by_bodies-requires-clause-bodies
image_by_bodies-requires-clause-bodies c =
    let s = c.args.store.now in
    let s1 = c.full_bodies.new.store in
    let bodies = c.in_ok-bodies.bodies.items in
    let r = ready_bodies s1 c.args.task.now bodies c.in_ok-bodies.ensures.ready c.args.mode (task_at s c.args.task.now) (task_later s s1 c.in_ok-bodies.ensures.grows c.args.task.now c.requires.can.held) c.in_ok-bodies.ensures.rule in
    subst (AreBodiesOf c.args.mode (task_at s1 c.args.task.now) s1) (sym c.deref.ensures.value) r

pub image_by_bodies-requires-clause-formula : goal.image_by_bodies-requires-clause-formula
image_by_bodies-requires-clause-formula c = formula_in_later c.args.store.now c.full_bodies.new.store c.in_ok-bodies.ensures.grows c.args.task.now c.requires.can.held c.args.mode c.args.formula c.requires.formula

pub returns-clause-tree : goal.returns-clause-tree
returns-clause-tree c = c.in_ok-made.ensures.tree ∙ same_formula c.args.store.now c.full_bodies.new.store c.in_ok-bodies.ensures.grows c.args.task.now c.requires.can.held c.args.mode c.args.formula c.requires.formula

pub returns-in_err-made-clause-fault : goal.returns-in_err-made-clause-fault
returns-in_err-made-clause-fault c =
    fault_passed c.from_residual-in_err-made.result c.in_err-made.field-0.0 _ c.from_residual-in_err-made.ensures.1
    (fault_later c.args.store.now c.full_bodies.new.store c.in_ok-bodies.ensures.grows c.args.task.now c.requires.can.held c.args.mode c.args.formula c.requires.formula c.in_err-made.field-0.0 c.in_err-made.ensures.fault)
