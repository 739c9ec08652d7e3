use Rattle.trees.proofs.store.NodeLists.{same_iff}
use Rattle.trees.proofs.store.plain.PlainStore.same.Goals as goal

pub returns : goal.returns
returns c = same_iff _ _ c.self.view_is c.self.invariant.sound c.args.a c.requires.a_held c.args.b c.requires.b_held _ c.eq.ensures
