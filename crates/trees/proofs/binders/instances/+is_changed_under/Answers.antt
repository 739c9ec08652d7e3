use Rattle.std.proofs.Common.{◌≡◌, sym, ap, ◌∙◌}
use Rattle.trees.specs.declared.Parts.TheVariants.{Two}
use Rattle.trees.specs.Node.{parts_of, head_of_node, assemble}
use Rattle.trees.proofs.binders.Telling.{two_can}
use Rattle.trees.proofs.binders.instances.+is_changed_under.Goals as goal

pub returns-then-is_changed_under-clause-can : goal.returns-then-is_changed_under-clause-can
returns-then-is_changed_under-clause-can g t c k =
    let s = c.args.s.now in
    let f = g.P.Put.change_over c.args.put.now s in
    let node = c.node-node.result in
    let other = c.node-other.result in
    let node_parts : parts_of node ≡ Two c.in-Two-Two.a c.in-Two-Two.b = sym c.parts.ensures ∙ c.in-Two-Two.is-0 in
    let other_parts : parts_of other ≡ Two c.in-Two-Two.x c.in-Two-Two.y = sym c.parts-2.ensures ∙ c.in-Two-Two.is-1 in
    let e = c.node-node.ensures.tree ∙ ap (assemble s (head_of_node node)) node_parts in
    let m = c.node-other.ensures.tree ∙ ap (assemble s (head_of_node other)) other_parts in
    c.is_changed_under-then-is_changed_under.ensures.can (two_can f c.args.depth c.depth_under-under.result _ _ _ _ _ _ _ _ e m c.depth_under-under.ensures k)
