use Rattle.tasks.proofs.trees.Nodes.{Grows_refl}
use Rattle.clones.proofs.clone_copies.moves.map_move.Goals as goal
use Rattle.tasks.proofs.outside.Passed.{no_ok, no_value}

pub returns-in_err-made-in-Brings-clause-is : goal.returns-in_err-made-in-Brings-clause-is
returns-in_err-made-in-Brings-clause-is c = no_value _ _ c.from_residual.result c.from_residual.ensures.1

pub returns-in_err-made-in-Brings-clause-result_held : goal.returns-in_err-made-in-Brings-clause-result_held
returns-in_err-made-in-Brings-clause-result_held c = no_value _ _ c.from_residual.result c.from_residual.ensures.1

pub returns-in_err-made-in-Brings-clause-known : goal.returns-in_err-made-in-Brings-clause-known
returns-in_err-made-in-Brings-clause-known c = no_ok _ _ c.from_residual.result c.from_residual.ensures.1

pub returns-in_err-name-in-Brings-clause-is : goal.returns-in_err-name-in-Brings-clause-is
returns-in_err-name-in-Brings-clause-is c = no_value _ _ c.from_residual-in_err-name-in-Brings.result c.from_residual-in_err-name-in-Brings.ensures.1

pub returns-in_err-name-in-Brings-clause-result_held : goal.returns-in_err-name-in-Brings-clause-result_held
returns-in_err-name-in-Brings-clause-result_held c = no_value _ _ c.from_residual-in_err-name-in-Brings.result c.from_residual-in_err-name-in-Brings.ensures.1

pub returns-in_err-name-in-Brings-clause-known : goal.returns-in_err-name-in-Brings-clause-known
returns-in_err-name-in-Brings-clause-known c = no_ok _ _ c.from_residual-in_err-name-in-Brings.result c.from_residual-in_err-name-in-Brings.ensures.1

pub returns-in_err-name-in-Opens-clause-is : goal.returns-in_err-name-in-Opens-clause-is
returns-in_err-name-in-Opens-clause-is c = no_value _ _ c.from_residual-in_err-name-in-Opens.result c.from_residual-in_err-name-in-Opens.ensures.1

pub returns-in_err-name-in-Opens-clause-result_held : goal.returns-in_err-name-in-Opens-clause-result_held
returns-in_err-name-in-Opens-clause-result_held c = no_value _ _ c.from_residual-in_err-name-in-Opens.result c.from_residual-in_err-name-in-Opens.ensures.1

pub returns-in_err-name-in-Opens-clause-known : goal.returns-in_err-name-in-Opens-clause-known
returns-in_err-name-in-Opens-clause-known c = no_ok _ _ c.from_residual-in_err-name-in-Opens.result c.from_residual-in_err-name-in-Opens.ensures.1

pub map_thing-requires-clause-map_held : goal.map_thing-requires-clause-map_held
map_thing-requires-clause-map_held c = c.requires.map_held

pub map_thing-requires-clause-known : goal.map_thing-requires-clause-known
map_thing-requires-clause-known c = c.requires.known

pub returns-in_err-made-in-Brings-clause-grows : goal.returns-in_err-made-in-Brings-clause-grows
returns-in_err-made-in-Brings-clause-grows c = c.map_thing.ensures.grows

pub returns-in_err-name-in-Brings-clause-grows : goal.returns-in_err-name-in-Brings-clause-grows
returns-in_err-name-in-Brings-clause-grows c = c.map_thing.ensures.grows

pub returns-in_err-name-in-Opens-clause-grows : goal.returns-in_err-name-in-Opens-clause-grows
returns-in_err-name-in-Opens-clause-grows c = Grows_refl c.args.store.now

pub returns-in_ok-name-in-Brings-clause-known : goal.returns-in_ok-name-in-Brings-clause-known
returns-in_ok-name-in-Brings-clause-known c = c.in_ok-made-in-Brings.ensures.known

pub returns-in_ok-name-in-Brings-clause-grows : goal.returns-in_ok-name-in-Brings-clause-grows
returns-in_ok-name-in-Brings-clause-grows c = c.map_thing.ensures.grows

pub returns-in_ok-name-in-Opens-clause-known : goal.returns-in_ok-name-in-Opens-clause-known
returns-in_ok-name-in-Opens-clause-known c = c.requires.known

pub returns-in_ok-name-in-Opens-clause-grows : goal.returns-in_ok-name-in-Opens-clause-grows
returns-in_ok-name-in-Opens-clause-grows c = Grows_refl c.args.store.now

pub returns-in-Closes-clause-known : goal.returns-in-Closes-clause-known
returns-in-Closes-clause-known c = c.requires.known

pub returns-in-Closes-clause-grows : goal.returns-in-Closes-clause-grows
returns-in-Closes-clause-grows c = Grows_refl c.args.store.now
