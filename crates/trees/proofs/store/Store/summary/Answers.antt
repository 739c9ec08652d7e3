use Rattle.std.proofs.Common.{◌≡◌, false, true, ◌<◌, length, arith}
use Rattle.trees.proofs.store.Tables.{length_table, table_summary}
use Rattle.trees.proofs.store.Store.summary.Goals as goal

pub unreachable-requires : goal.unreachable-requires
unreachable-requires c =
    let l : c.args.id.0 < length c.self.inside.nodes.entries = omega (arith, length_table c.self.inside.nodes.entries c.args.self.now c.self.view_is) in
    let f : false ≡ true = c.in-None.ensures.found.1 l in
    absurd (cc)

pub returns : goal.returns
returns c = table_summary _ _ c.self.view_is c.self.invariant c.args.id c.requires _ c.in-Some.summary.now c.in-Some.ensures.entry
