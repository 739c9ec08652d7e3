use Rattle.tasks.proofs.trees.Nodes.{Grows_refl}
use Rattle.clones.proofs.clone_copies.places.push_copy.Goals as goal
use Rattle.tasks.proofs.outside.Passed.{no_ok}

pub returns-in_err-push_decl-in-None-clause-state : goal.returns-in_err-push_decl-in-None-clause-state
returns-in_err-push_decl-in-None-clause-state c = no_ok _ _ c.from_residual.result c.from_residual.ensures.1

pub returns-in_err-push_decl-in-None-clause-held : goal.returns-in_err-push_decl-in-None-clause-held
returns-in_err-push_decl-in-None-clause-held c = no_ok _ _ c.from_residual.result c.from_residual.ensures.1

pub push_kind-requires-clause-held : goal.push_kind-requires-clause-held
push_kind-requires-clause-held c = c.requires.held

pub push_kind-requires-clause-copy_held : goal.push_kind-requires-clause-copy_held
push_kind-requires-clause-copy_held c = c.requires.copy_held

pub push_decl-requires : goal.push_decl-requires
push_decl-requires c = c.requires.held.opened.visible

pub returns-in_err-push_decl-in-None-clause-grows : goal.returns-in_err-push_decl-in-None-clause-grows
returns-in_err-push_decl-in-None-clause-grows c = Grows_refl c.args.store.now

pub returns-in-Some-clause-held : goal.returns-in-Some-clause-held
returns-in-Some-clause-held c = c.push_kind.ensures.held

pub returns-in-Some-clause-grows : goal.returns-in-Some-clause-grows
returns-in-Some-clause-grows c = c.push_kind.ensures.grows

pub returns-in_ok-push_decl-in-None-clause-held : goal.returns-in_ok-push_decl-in-None-clause-held
returns-in_ok-push_decl-in-None-clause-held c = c.in_ok-push_decl-in-None.ensures.held c.args.store.now c.requires.held c.requires.copy_held

pub returns-in_ok-push_decl-in-None-clause-grows : goal.returns-in_ok-push_decl-in-None-clause-grows
returns-in_ok-push_decl-in-None-clause-grows c = Grows_refl c.args.store.now
