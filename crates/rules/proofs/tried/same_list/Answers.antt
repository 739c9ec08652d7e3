use Rattle.std.proofs.Common.{arith}
use Rattle.trees.specs.Node.{tree_at}
use Rattle.rules.specs.Meaning.{no_id}
use Rattle.rules.proofs.Sequents.{yes_same, no_same, not_so}
use Rattle.rules.proofs.tried.same_list.Goals as goal

pub returns-then-not-same : goal.returns-then-not-same
returns-then-not-same c = let t = tree_at c.args.store.now in let h = c.if-not-same.true in let r = c.same.ensures.trees in
    no_same t t c.args.xs.now c.args.ys.now no_id no_id c.loop-i.i (omega arith) (omega arith) (not_so c.same.result r h)

pub returns : goal.returns
returns c = let t = tree_at c.args.store.now in
    yes_same t t c.args.xs.now c.args.ys.now no_id no_id (omega arith) c.loop-i.i (omega arith) c.loop-i.invariant
