use Rattle.tasks.proofs.trees.Nodes.{Grows_refl}
use Rattle.clones.proofs.clone_elements.elements.is_right.Goals as goal

pub replaces-requires-clause-trial : goal.replaces-requires-clause-trial
replaces-requires-clause-trial c = c.requires.trial

pub replaces-requires-clause-known : goal.replaces-requires-clause-known
replaces-requires-clause-known c = c.requires.known

pub returns-in-Symbol-clause-known : goal.returns-in-Symbol-clause-known
returns-in-Symbol-clause-known c = c.replaces.ensures.known

pub returns-in-Symbol-clause-grows : goal.returns-in-Symbol-clause-grows
returns-in-Symbol-clause-grows c = c.replaces.ensures.grows

pub returns-in-Type-clause-known : goal.returns-in-Type-clause-known
returns-in-Type-clause-known c = c.requires.known

pub returns-in-Type-clause-grows : goal.returns-in-Type-clause-grows
returns-in-Type-clause-grows c = Grows_refl c.args.store.now

pub returns-in-Nothing-clause-known : goal.returns-in-Nothing-clause-known
returns-in-Nothing-clause-known c = c.requires.known

pub returns-in-Nothing-clause-grows : goal.returns-in-Nothing-clause-grows
returns-in-Nothing-clause-grows c = Grows_refl c.args.store.now

pub returns-in-None-clause-known : goal.returns-in-None-clause-known
returns-in-None-clause-known c = c.requires.known

pub returns-in-None-clause-grows : goal.returns-in-None-clause-grows
returns-in-None-clause-grows c = Grows_refl c.args.store.now

pub returns-in-TypeElem-clause-known : goal.returns-in-TypeElem-clause-known
returns-in-TypeElem-clause-known c = c.requires.known

pub returns-in-TypeElem-clause-grows : goal.returns-in-TypeElem-clause-grows
returns-in-TypeElem-clause-grows c = Grows_refl c.args.store.now

pub returns-in-PropElem-clause-known : goal.returns-in-PropElem-clause-known
returns-in-PropElem-clause-known c = c.requires.known

pub returns-in-PropElem-clause-grows : goal.returns-in-PropElem-clause-grows
returns-in-PropElem-clause-grows c = Grows_refl c.args.store.now

pub returns-in-AllAxioms-clause-known : goal.returns-in-AllAxioms-clause-known
returns-in-AllAxioms-clause-known c = c.requires.known

pub returns-in-AllAxioms-clause-grows : goal.returns-in-AllAxioms-clause-grows
returns-in-AllAxioms-clause-grows c = Grows_refl c.args.store.now
