use Rattle.std.proofs.Common.{◌<◌, length, arith}
use Rattle.tasks.specs.trees.declared.TermId.{TermId}
use Rattle.step_writing.proofs.tree_writing.MarkedParts.{first_more, first_all}
use Rattle.step_writing.proofs.tree_writing.marking.root_marks.Goals as goal

abbrev no_id : TermId
no_id = record { 0 = 0 }

pub loop-root-preserved : goal.loop-root-preserved
loop-root-preserved c =
    let lt : c.loop-root.root-index < length c.args.roots.now = omega (arith, c.loop-root-test.true) in
    first_more c.args.store.now c.args.roots.now c.loop-root.marks.items c.widen.new.marks.items c.mark.new.marks.items c.loop-root.root-index no_id lt (c.requires c.loop-root.root-index no_id lt) c.in_ok-widen.ensures.same c.mark.ensures c.loop-root.invariant

pub returns : goal.returns
returns c = first_all c.args.store.now c.args.roots.now c.loop-root.marks.items c.loop-root.root-index (omega (arith, c.loop-root-test.false)) c.loop-root.invariant
