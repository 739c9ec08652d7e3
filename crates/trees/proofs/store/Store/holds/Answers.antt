use Rattle.std.proofs.Common.{◌≡◌, length, arith}
use Rattle.std.proofs.lemmas.Bool.Decides.{nat_tests}
use Rattle.trees.proofs.store.Tables.{length_table}
use Rattle.trees.proofs.store.Store.holds.Goals as goal

pub returns : goal.returns
returns c =
    let n : length c.self.inside.nodes.entries ≡ length c.args.self.now = length_table _ _ c.self.view_is in
    grind (arith, nat_tests)
