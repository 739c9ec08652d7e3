use Rattle.std.proofs.Common.{◌≡◌, ◌+◌, ◌-◌, ◌<◌, false, length, subst, arith}
use Rattle.std.proofs.lemmas.List.{get_or_read}
use Rattle.tasks.specs.trees.Node.{head_of_node, parts_of}
use Rattle.step_writing.specs.tree_writing.Parts.{MarksParts}
use Rattle.step_writing.proofs.tree_writing.MarkedParts.{mark_read, marked_next}
use Rattle.step_writing.proofs.tree_writing.marking.mark_trees.Goals as goal

pub loop-i-preserved-then-index : goal.loop-i-preserved-then-index
loop-i-preserved-then-index c =
    let h = c.loop-i.invariant in
    let old = c.loop-i.marks.items in
    let new = c.mark_parts.new.marks.items in
    let i = c.loop-i.i - 1 in
    let lt : i < length old = omega (arith, h.within, c.loop-i-test.true) in
    let more : MarksParts old new (parts_of c.node.result) = subst (MarksParts old new) c.parts.ensures c.mark_parts.ensures in
    let mine = mark_read old i c.index.result.now (get_or_read old i _ lt c.index.ensures false) c.if-index.true in
    let j : c.loop-i.i ≡ i + 1 = omega (arith, c.loop-i-test.true) in
    record {
      within = omega (arith, h.within, c.mark_parts.ensures.as_long);
      from = marked_next c.args.store.now c.args.roots.now old new i c.loop-i.i (head_of_node c.node.result) (parts_of c.node.result) j (h.from.first.held i mine) c.node.ensures.tree c.node.ensures.below mine more h.from;
    }
