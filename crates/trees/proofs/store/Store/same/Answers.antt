use Rattle.trees.proofs.store.NodeLists.{same_iff, number_iff}
use Rattle.trees.proofs.store.Store.same.Goals as goal

pub returns-clause-trees : goal.returns-clause-trees
returns-clause-trees c = same_iff _ _ c.self.view_is c.self.invariant.sound c.args.a c.requires.a_held c.args.b c.requires.b_held _ c.eq.ensures

pub returns-clause-numbers : goal.returns-clause-numbers
returns-clause-numbers c = number_iff _ _ c.self.view_is c.self.invariant.sound c.args.a c.requires.a_held c.args.b _ c.eq.ensures
