use Rattle.std.proofs.Common.{◌≡◌, length, arith}
use Rattle.std.proofs.lemmas.Bool.Decides.{nat_tests}
use Rattle.trees.proofs.store.NodeLists.{length_is}
use Rattle.trees.proofs.store.plain.PlainStore.holds.Goals as goal

pub returns : goal.returns
returns c =
    let n : length c.self.inside.nodes.items ≡ length c.args.self.now = length_is _ _ c.self.view_is in
    grind (arith, nat_tests)
