use Rattle.tasks.proofs.trees.Nodes.{Grows_refl}
use Rattle.clones.proofs.clone_copies.moves.map_thing.Goals as goal

pub map_alias-requires-clause-map_held : goal.map_alias-requires-clause-map_held
map_alias-requires-clause-map_held c = c.requires.map_held

pub map_alias-requires-clause-known : goal.map_alias-requires-clause-known
map_alias-requires-clause-known c = c.requires.known

pub returns-in-Alias-clause-known : goal.returns-in-Alias-clause-known
returns-in-Alias-clause-known c = c.map_alias.ensures.known

pub returns-in-Alias-clause-grows : goal.returns-in-Alias-clause-grows
returns-in-Alias-clause-grows c = c.map_alias.ensures.grows

pub returns-in-Entry-clause-known : goal.returns-in-Entry-clause-known
returns-in-Entry-clause-known c = c.requires.known

pub returns-in-Entry-clause-grows : goal.returns-in-Entry-clause-grows
returns-in-Entry-clause-grows c = Grows_refl c.args.store.now

pub returns-in-Entry-thing-clause-known : goal.returns-in-Entry-thing-clause-known
returns-in-Entry-thing-clause-known c = c.requires.known

pub returns-in-Entry-thing-clause-grows : goal.returns-in-Entry-thing-clause-grows
returns-in-Entry-thing-clause-grows c = Grows_refl c.args.store.now

pub returns-in-Alias-thing-clause-known : goal.returns-in-Alias-thing-clause-known
returns-in-Alias-thing-clause-known c = c.requires.known

pub returns-in-Alias-thing-clause-grows : goal.returns-in-Alias-thing-clause-grows
returns-in-Alias-thing-clause-grows c = Grows_refl c.args.store.now

pub returns-in-Propositions-clause-known : goal.returns-in-Propositions-clause-known
returns-in-Propositions-clause-known c = c.requires.known

pub returns-in-Propositions-clause-grows : goal.returns-in-Propositions-clause-grows
returns-in-Propositions-clause-grows c = Grows_refl c.args.store.now

pub returns-in-Scopes-clause-known : goal.returns-in-Scopes-clause-known
returns-in-Scopes-clause-known c = c.requires.known

pub returns-in-Scopes-clause-grows : goal.returns-in-Scopes-clause-grows
returns-in-Scopes-clause-grows c = Grows_refl c.args.store.now
