use Rattle.tasks.proofs.trees.Nodes.{Grows_refl}
use Rattle.clones.proofs.clone_elements.elements.same_result.Goals as goal
use Rattle.tasks.proofs.outside.Passed.{no_ok, no_value}

pub returns-in_err-made-in-Some-other-clause-same : goal.returns-in_err-made-in-Some-other-clause-same
returns-in_err-made-in-Some-other-clause-same c = no_value _ _ c.from_residual.result c.from_residual.ensures.1

pub returns-in_err-made-in-Some-other-clause-known : goal.returns-in_err-made-in-Some-other-clause-known
returns-in_err-made-in-Some-other-clause-known c = no_ok _ _ c.from_residual.result c.from_residual.ensures.1

pub map_tree-requires-clause-map_held : goal.map_tree-requires-clause-map_held
map_tree-requires-clause-map_held c = c.requires.map_held

pub map_tree-requires-clause-known : goal.map_tree-requires-clause-known
map_tree-requires-clause-known c = c.requires.known

pub returns-in_err-made-in-Some-other-clause-grows : goal.returns-in_err-made-in-Some-other-clause-grows
returns-in_err-made-in-Some-other-clause-grows c = c.map_tree.ensures.grows

pub same-requires-clause-a_held : goal.same-requires-clause-a_held
same-requires-clause-a_held c = c.in_ok-made-in-Some-other.ensures.mapped.held

pub returns-in_ok-made-in-Some-other-clause-known : goal.returns-in_ok-made-in-Some-other-clause-known
returns-in_ok-made-in-Some-other-clause-known c = c.in_ok-made-in-Some-other.ensures.known

pub returns-in_ok-made-in-Some-other-clause-grows : goal.returns-in_ok-made-in-Some-other-clause-grows
returns-in_ok-made-in-Some-other-clause-grows c = c.map_tree.ensures.grows

pub returns-in-None-other-clause-known : goal.returns-in-None-other-clause-known
returns-in-None-other-clause-known c = c.requires.known

pub returns-in-None-other-clause-grows : goal.returns-in-None-other-clause-grows
returns-in-None-other-clause-grows c = Grows_refl c.args.store.now

pub returns-in-None-clause-known : goal.returns-in-None-clause-known
returns-in-None-clause-known c = c.requires.known

pub returns-in-None-clause-grows : goal.returns-in-None-clause-grows
returns-in-None-clause-grows c = Grows_refl c.args.store.now
