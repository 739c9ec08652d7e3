use Rattle.std.proofs.Common.{◌≡◌, ◌<◌, max, arith}
use Rattle.std.proofs.lemmas.Bool.Decides.{nat_tests}
use Rattle.trees.specs.Node.{tree_at}
use Rattle.tr_inline.proofs.full_bodies.Least.{some_least}
use Rattle.tr_inline.proofs.full_bodies.sizes.+is_higher.Goals as goal

pub returns-then-most-eq0 : goal.returns-then-most-eq0
returns-then-most-eq0 t c =
    let n : c.args.most ≡ 0 = grind (arith, nat_tests, c.if-most-eq0.true) in
    λ x. omega (arith, n, some_least max (tree_at c.args.store.now c.args.e))
