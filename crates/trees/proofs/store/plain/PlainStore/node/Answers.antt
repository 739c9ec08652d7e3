use Rattle.std.proofs.Common.{arith}
use Rattle.trees.proofs.store.NodeLists.{held, tree_is, below_is, fits_is}
use Rattle.trees.proofs.store.plain.PlainStore.node.Goals as goal

pub index-requires : goal.index-requires
index-requires c = omega (arith, held c.self.inside.nodes.items c.args.self.now c.self.view_is c.args.id c.requires, c.self.inside.nodes.ok.0)

pub returns-clause-tree : goal.returns-clause-tree
returns-clause-tree c = tree_is _ _ c.self.view_is c.self.invariant.sound c.args.id c.requires _ c.index.ensures

pub returns-clause-below : goal.returns-clause-below
returns-clause-below c = below_is _ _ c.self.view_is c.self.invariant.sound c.args.id c.requires _ c.index.ensures

pub returns-clause-fits : goal.returns-clause-fits
returns-clause-fits c = fits_is _ _ c.self.view_is c.self.invariant.sound c.args.id c.requires
