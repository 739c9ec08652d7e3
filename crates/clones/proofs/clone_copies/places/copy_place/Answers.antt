use Rattle.tasks.proofs.trees.Nodes.{Grows_refl}
use Rattle.clones.proofs.clone_copies.places.copy_place.Goals as goal

pub copy_own-requires-clause-held : goal.copy_own-requires-clause-held
copy_own-requires-clause-held c = c.requires.held

pub copy_own-requires-clause-within : goal.copy_own-requires-clause-within
copy_own-requires-clause-within c = c.requires.within

pub copy_own-requires-clause-map_held : goal.copy_own-requires-clause-map_held
copy_own-requires-clause-map_held c = c.requires.map_held

pub copy_own-requires-clause-known : goal.copy_own-requires-clause-known
copy_own-requires-clause-known c = c.requires.known

pub returns-then-is_own-clause-held : goal.returns-then-is_own-clause-held
returns-then-is_own-clause-held c = c.copy_own.ensures.held

pub returns-then-is_own-clause-known : goal.returns-then-is_own-clause-known
returns-then-is_own-clause-known c = c.copy_own.ensures.known

pub returns-then-is_own-clause-grows : goal.returns-then-is_own-clause-grows
returns-then-is_own-clause-grows c = c.copy_own.ensures.grows

pub returns-else-is_own-clause-grows : goal.returns-else-is_own-clause-grows
returns-else-is_own-clause-grows c = Grows_refl c.args.store.now
