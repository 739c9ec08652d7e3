use Rattle.std.proofs.Common.{sym}
use Rattle.linear_leaf.specs.Linear.{reading, negated_sum, zeros}
use Rattle.trees.specs.Node.{tree_at}
use Rattle.step_reading.proofs.shared_sums.Numbered.{known_plus, known_minus, known_times, known_atom, known_more}
use Rattle.step_reading.proofs.shared_sums.known.+knowing.Goals as goal

pub known_by_top-returns-in_ok-y-in-Plus-clause-known : goal.known_by_top-returns-in_ok-y-in-Plus-clause-known
known_by_top-returns-in_ok-y-in-Plus-clause-known t c =
    let z = c.args.ints.now in let s = c.args.store.now in let h = c.in_ok-x-in-Plus.ensures.known in let g = c.in_ok-y-in-Plus.ensures.known in
    known_plus z s c.args.e.0 c.requires.held c.plus.result c.in_ok-x-in-Plus.x c.in_ok-y-in-Plus.y c.in-Plus.a.0 c.in-Plus.b.0 c.in-Plus.ensures.below.0 c.in-Plus.ensures.below.1 h g (c.in-Plus.ensures.reads zeros)
    (c.plus.ensures (reading z zeros (tree_at s c.in-Plus.a)) (reading z zeros (tree_at s c.in-Plus.b)) h.told g.told)

pub known_by_top-returns-in_ok-y-in-Minus-clause-known : goal.known_by_top-returns-in_ok-y-in-Minus-clause-known
known_by_top-returns-in_ok-y-in-Minus-clause-known t c =
    let z = c.args.ints.now in let s = c.args.store.now in let h = c.in_ok-x-in-Minus.ensures.known in let g = c.in_ok-y-in-Minus.ensures.known in
    let b = reading z zeros (tree_at s c.in-Minus.b) in
    known_minus z s c.args.e.0 c.requires.held c.plus-in-Minus.result c.in_ok-x-in-Minus.x c.in_ok-y-in-Minus.y c.in-Minus.a.0 c.in-Minus.b.0 c.in-Minus.ensures.below.0 c.in-Minus.ensures.below.1 h g (c.in-Minus.ensures.reads zeros)
    (c.plus-in-Minus.ensures (reading z zeros (tree_at s c.in-Minus.a)) (negated_sum b) h.told (c.negated-in-Minus.ensures b g.told))

pub known_by_top-returns-in_ok-y-in-Times-clause-known : goal.known_by_top-returns-in_ok-y-in-Times-clause-known
known_by_top-returns-in_ok-y-in-Times-clause-known t c =
    let z = c.args.ints.now in let s = c.args.store.now in let h = c.in_ok-x-in-Times.ensures.known in let g = c.in_ok-y-in-Times.ensures.known in
    known_times z s c.args.e.0 c.requires.held c.times.result c.in_ok-x-in-Times.x c.in_ok-y-in-Times.y c.in-Times.a.0 c.in-Times.b.0 c.in-Times.ensures.below.0 c.in-Times.ensures.below.1 h g (c.in-Times.ensures.reads zeros)
    (c.times.ensures (tree_at s c.args.e) (reading z zeros (tree_at s c.in-Times.a)) (reading z zeros (tree_at s c.in-Times.b)) h.told g.told)

pub known_by_top-returns-in-Atom-clause-known : goal.known_by_top-returns-in-Atom-clause-known
known_by_top-returns-in-Atom-clause-known t c =
    known_atom c.args.ints.now c.args.store.now c.args.e.0 c.requires.held c.of_an_atom.result (c.in-Atom.ensures.reads zeros) (c.of_an_atom.ensures (tree_at c.args.store.now c.args.e))

pub known_of-returns-in-Some-clause-known : goal.known_of-returns-in-Some-clause-known
known_of-returns-in-Some-clause-known t c = c.requires.table c.args.e.0 c.in-Some.x.now (sym c.in-Some.ensures.value)

pub known_of-returns-clause-table : goal.known_of-returns-clause-table
known_of-returns-clause-table t c =
    known_more c.args.ints.now c.args.store.now c.known_by_top.new.table c.insert.new.self c.args.e.0 c.in_ok-x.x c.in_ok-x.ensures.table c.in_ok-x.ensures.known c.in_ok-insert.ensures.updates.0
