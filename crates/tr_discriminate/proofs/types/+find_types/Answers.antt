use Rattle.std.proofs.Common.{◌≤◌, sym, arith}
use Rattle.tasks.specs.trees.Tree.{above_ty_vars}
use Rattle.tasks.specs.trees.Node.{tree_at}
use Rattle.tasks.specs.Meaning.{trees_at}
use Rattle.tasks.proofs.Ground.{ground}
use Rattle.tr_discriminate.proofs.Found.{found_none}
use Rattle.tr_discriminate.proofs.types.+find_types.Goals as goal

pub returns-then-above-eq0-clause-found : goal.returns-then-above-eq0-clause-found
returns-then-above-eq0-clause-found t c =
    let s = c.args.store.now in
    let a = tree_at s c.args.a in
    let none : above_ty_vars a ≤ 0 = omega (arith, c.above_type_variables-above.ensures) in
    sym (found_none a (tree_at s c.args.e) (trees_at s c.args.types.now.items) (ground a none))
