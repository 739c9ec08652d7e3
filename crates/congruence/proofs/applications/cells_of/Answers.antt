use Rattle.std.proofs.Common.{◌≡◌, List, subst, sym}
use Rattle.trees.specs.declared.Sort.TheVariants as sort
use Rattle.trees.specs.Tree.{Tree}
use Rattle.trees.specs.Node.{tree_at}
use Rattle.trees.specs.Sorts.{sort_of}
use Rattle.congruence.proofs.Lists.{list_node}
use Rattle.congruence.proofs.applications.cells_of.Goals as goal

pub unreachable-requires : goal.unreachable-requires
unreachable-requires c =
    let s = c.store.result.now in
    let k : sort_of (tree_at s c.args.list) ≡ sort.List = subst (λ (z : List Tree). sort_of (tree_at z c.args.list) ≡ sort.List) (sym c.store.ensures) c.requires.sort in
    list_node s (tree_at s c.args.list) c.node.result c.node.ensures.tree c.node.ensures.sorted k c.in_default.not-End c.in_default.not-Cell
