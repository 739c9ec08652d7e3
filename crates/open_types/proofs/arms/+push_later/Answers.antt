use Rattle.trees.proofs.Nodes.{Grows_trans}
use Rattle.open_types.proofs.Branching.{first_later, pattern_grows}
use Rattle.open_types.proofs.arms.+push_later.Goals as goal

pub push_arm-requires-clause-pattern : goal.push_arm-requires-clause-pattern
push_arm-requires-clause-pattern t c =
    pattern_grows _ _ (Grows_trans _ _ _ c.push_later.ensures.grows c.reorder.ensures.grows) c.in-Some.first.now.pattern (first_later c.args.store.now c.args.later.now c.in-Some.rest.now c.in-Some.first.now c.in-Some.ensures.cases.0 c.requires.later)
