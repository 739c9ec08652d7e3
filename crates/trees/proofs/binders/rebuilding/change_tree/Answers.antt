use Rattle.std.proofs.Common.{ap, ◌∙◌, arith}
use Rattle.trees.specs.Node.{tree_at}
use Rattle.trees.specs.Sorts.{sort_of}
use Rattle.trees.specs.laws.Sorts.{sort_of-change}
use Rattle.trees.proofs.binders.rebuilding.change_tree.Goals as goal

pub returns-clause-sort : goal.returns-clause-sort
returns-clause-sort g c =
    let s = g.G.Grow.trees c.args.g.now in
    let f = g.V.Visit.change_over c.args.visit.now s in
    ap sort_of (c.in_ok-made.ensures.rebuilt.is.is 0 (omega arith)) ∙ sort_of-change f (g.met.V.Visit.sorts c.args.visit.now s c.requires.ready) 0 (tree_at s c.args.e)
