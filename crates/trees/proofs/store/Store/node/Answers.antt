use Rattle.std.proofs.Common.{◌≡◌, false, true, ◌<◌, length, arith}
use Rattle.trees.proofs.store.Tables.{length_table, table_tree, table_below}
use Rattle.trees.proofs.store.NodeLists.{sorted_is}
use Rattle.std.specs.Map.{keys_of}
use Rattle.trees.proofs.store.Store.node.Goals as goal

pub unreachable-requires : goal.unreachable-requires
unreachable-requires c =
    let l : c.args.id.0 < length c.self.inside.nodes.entries = omega (arith, length_table c.self.inside.nodes.entries c.args.self.now c.self.view_is) in
    let f : false ≡ true = c.in-None.ensures.found.1 l in
    absurd (cc)

pub returns-clause-tree : goal.returns-clause-tree
returns-clause-tree c = table_tree _ _ c.self.view_is c.self.invariant c.args.id c.requires c.in-Some.node.now c.in-Some.field-0-1.now c.in-Some.ensures.entry

pub returns-clause-below : goal.returns-clause-below
returns-clause-below c = table_below _ _ c.self.view_is c.self.invariant c.args.id c.requires c.in-Some.node.now c.in-Some.field-0-1.now c.in-Some.ensures.entry

pub returns-clause-sorted : goal.returns-clause-sorted
returns-clause-sorted c = sorted_is (keys_of c.self.inside.nodes.entries) c.args.self.now c.self.view_is c.self.invariant.sound c.args.id c.requires
