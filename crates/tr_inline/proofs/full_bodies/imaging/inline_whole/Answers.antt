use Rattle.std.proofs.Common.{◌≡◌, sym, subst, ap, ◌∙◌}
use Rattle.trees.specs.declared.TermId.{TermId}
use Rattle.trees.specs.Node.{tree_at, Holds}
use Rattle.tr_inline.specs.full_bodies.Faults.{IsFaultOf}
use Rattle.tr_inline.specs.full_bodies.Inlined.{inlined_at}
use Rattle.tr_inline.proofs.full_bodies.Steps.{err_passed, fault_as}
use Rattle.tr_inline.proofs.full_bodies.imaging.inline_whole.Goals as goal

pub returns-in_err-made-clause-fault : goal.returns-in_err-made-clause-fault
returns-in_err-made-clause-fault c =
    let s = c.args.store.now in
    let x = c.args.inlining.now in
    err_passed (IsFaultOf (inlined_at s x c.args.e)) c.from_residual.result c.in_err-made.field-0.0 c.from_residual.ensures.1 c.in_err-made.ensures.fault

pub returns-in_err-small-clause-fault : goal.returns-in_err-small-clause-fault
returns-in_err-small-clause-fault c =
    let s = c.args.store.now in
    let x = c.args.inlining.now in
    err_passed (IsFaultOf (inlined_at s x c.args.e)) c.from_residual-in_err-small.result c.in_err-small.field-0.0 c.from_residual-in_err-small.ensures.1
    (fault_as (tree_at c.inline_tree.new.store c.in_ok-made.made) (inlined_at s x c.args.e) c.in_ok-made.ensures.inlined.is c.in_err-small.field-0.0 c.in_err-small.ensures.fault)

pub returns-clause-held : goal.returns-clause-held
returns-clause-held c = subst (Holds c.inline_tree.new.store) (sym c.in_ok-small.ensures.same) c.in_ok-made.ensures.inlined.held

pub returns-clause-tree : goal.returns-clause-tree
returns-clause-tree c = ap (tree_at c.inline_tree.new.store) c.in_ok-small.ensures.same ∙ c.in_ok-made.ensures.inlined.is
