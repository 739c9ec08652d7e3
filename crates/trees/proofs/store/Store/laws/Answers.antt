use Rattle.std.specs.Map.{keys_of}
use Rattle.trees.proofs.store.NodeLists.{sorted_is, same_id}
use Rattle.trees.proofs.store.Store.laws.Goals as goal

pub returns-clause-sorted : goal.returns-clause-sorted
returns-clause-sorted c = λ id h. sorted_is (keys_of c.self.inside.nodes.entries) c.args.self.now c.self.view_is c.self.invariant.sound id h

pub returns-clause-apart : goal.returns-clause-apart
returns-clause-apart c = λ a b h k. same_id (keys_of c.self.inside.nodes.entries) c.args.self.now c.self.view_is c.self.invariant.sound a h b k
