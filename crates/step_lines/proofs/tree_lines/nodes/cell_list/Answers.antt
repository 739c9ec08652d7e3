use Rattle.std.proofs.Common.{◌<◌, arith}
use Rattle.step_lines.proofs.tree_lines.Growing.{cells_refused}
use Rattle.step_lines.proofs.tree_lines.nodes.cell_list.Goals as goal

pub returns-in-None-clause-made : goal.returns-in-None-clause-made
returns-in-None-clause-made c =
    let i = c.loop-i.invariant in
    let some : 0 < c.loop-i.i = omega (arith, c.loop-i-test.true) in
    cells_refused c.args.store.now c.loop-i.store c.add_node.new.store i.grows c.args.items.now c.loop-i.i _ c.loop-i.list some i.within c.requires i.tree c.in_ok-longer.field-0 c.in-None.is c.in_ok-longer.ensures.made
