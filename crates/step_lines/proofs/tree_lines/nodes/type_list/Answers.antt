use Rattle.std.proofs.Common.{◌-◌, ◌<◌, length, get_or, arith}
use Rattle.trees.specs.declared.TermId.{TermId}
use Rattle.trees.specs.Node.{tree_at}
use Rattle.trees.proofs.Nodes.{Grows_trans}
use Rattle.step_lines.proofs.tree_lines.Growing.{type_there, type_held, type_fits, list_more, types_sort}
use Rattle.step_lines.proofs.tree_lines.nodes.type_list.Goals as goal

abbrev no_id : TermId
no_id = record { 0 = 0 }

pub add-requires-in-loop-i-clause-held : goal.add-requires-in-loop-i-clause-held
add-requires-in-loop-i-clause-held c =
    let i = c.loop-i.invariant in
    let some : 0 < c.loop-i.i = omega (arith, c.loop-i-test.true) in
    ((type_held c.args.store.now c.loop-i.store i.grows c.args.types.now c.loop-i.i no_id c.loop-i.list some i.within i.tree c.requires).0, i.held)

pub add-requires-in-loop-i-clause-fits : goal.add-requires-in-loop-i-clause-fits
add-requires-in-loop-i-clause-fits c =
    let i = c.loop-i.invariant in
    let some : 0 < c.loop-i.i = omega (arith, c.loop-i-test.true) in
    type_fits (tree_at c.loop-i.store (get_or c.args.types.now (c.loop-i.i - 1) no_id)) (tree_at c.loop-i.store c.loop-i.list)
    (type_held c.args.store.now c.loop-i.store i.grows c.args.types.now c.loop-i.i no_id c.loop-i.list some i.within i.tree c.requires).1 i.sort

pub loop-i-preserved : goal.loop-i-preserved
loop-i-preserved c =
    let i = c.loop-i.invariant in
    let some : 0 < c.loop-i.i = omega (arith, c.loop-i-test.true) in
    let lt : c.loop-i.i - 1 < length c.args.types.now = omega (arith, i.within, c.loop-i-test.true) in
    let ty = type_held c.args.store.now c.loop-i.store i.grows c.args.types.now c.loop-i.i no_id c.loop-i.list some i.within i.tree c.requires in
    record {
      within = omega (arith, i.within);
      grows = Grows_trans c.args.store.now c.loop-i.store c.add-in-loop-i.new.self i.grows c.add-in-loop-i.ensures.grows;
      held = c.in_ok-list-2.ensures.held;
      tree = list_more c.args.store.now c.loop-i.store i.grows c.args.types.now c.loop-i.i no_id c.loop-i.list some i.within i.tree c.add-in-loop-i.new.self c.in_ok-list-2.list (type_there c.args.store.now c.args.types.now (c.loop-i.i - 1) no_id lt c.requires).0 c.in_ok-list-2.ensures.tree;
      sort = types_sort (tree_at c.add-in-loop-i.new.self c.in_ok-list-2.list) (tree_at c.loop-i.store (get_or c.args.types.now (c.loop-i.i - 1) no_id)) (tree_at c.loop-i.store c.loop-i.list) c.in_ok-list-2.ensures.tree ty.1;
    }
