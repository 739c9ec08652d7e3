use Rattle.tasks.proofs.trees.Nodes.{Grows_refl}
use Rattle.clones.proofs.clone_elements.elements.check_side.Goals as goal
use Rattle.tasks.proofs.outside.Passed.{no_ok, no_value}

pub returns-in_err-is_right-clause-told : goal.returns-in_err-is_right-clause-told
returns-in_err-is_right-clause-told c = no_value _ _ c.from_residual.result c.from_residual.ensures.1

pub returns-in_err-is_right-clause-known : goal.returns-in_err-is_right-clause-known
returns-in_err-is_right-clause-known c = no_ok _ _ c.from_residual.result c.from_residual.ensures.1

pub is_right-requires-clause-trial : goal.is_right-requires-clause-trial
is_right-requires-clause-trial c = c.requires.trial

pub is_right-requires-clause-known : goal.is_right-requires-clause-known
is_right-requires-clause-known c = c.requires.known

pub returns-then-is_wrong-clause-known : goal.returns-then-is_wrong-clause-known
returns-then-is_wrong-clause-known c = c.requires.known

pub returns-then-is_wrong-clause-grows : goal.returns-then-is_wrong-clause-grows
returns-then-is_wrong-clause-grows c = Grows_refl c.args.store.now

pub returns-in_err-is_right-clause-grows : goal.returns-in_err-is_right-clause-grows
returns-in_err-is_right-clause-grows c = c.is_right.ensures.grows
