use Rattle.std.proofs.Common.{sym, subst}
use Rattle.open_types.specs.Scoped.{IsScopedEntry}
use Rattle.elab_groups.proofs.parts.Entering.{rigid_typed, rigid_scoped}
use Rattle.clones.proofs.clone_copies.places.+push_rigid.Goals as goal
use Rattle.tasks.proofs.outside.Passed.{no_ok}

pub push_entry-requires-clause-typed : goal.push_entry-requires-clause-typed
push_entry-requires-clause-typed t c = rigid_typed c.args.store.now c.in_ok-info.info c.as_slice.result.now (c.in_ok-info.ensures c.args.store.now)

pub push_entry-requires-clause-scoped : goal.push_entry-requires-clause-scoped
push_entry-requires-clause-scoped t c = subst IsScopedEntry (sym (c.in_ok-info.ensures c.args.store.now)) (rigid_scoped c.as_slice.result.now)

pub push_entry-requires-clause-signature : goal.push_entry-requires-clause-signature
push_entry-requires-clause-signature t c = c.requires

pub returns-in_err-info-clause-entries : goal.returns-in_err-info-clause-entries
returns-in_err-info-clause-entries t c = no_ok _ _ c.from_residual.result c.from_residual.ensures.1

pub returns-in_err-info-clause-numbers : goal.returns-in_err-info-clause-numbers
returns-in_err-info-clause-numbers t c = no_ok _ _ c.from_residual.result c.from_residual.ensures.1

pub returns-in_err-push_entry-clause-entries : goal.returns-in_err-push_entry-clause-entries
returns-in_err-push_entry-clause-entries t c = no_ok _ _ c.from_residual-in_err-push_entry.result c.from_residual-in_err-push_entry.ensures.1

pub returns-in_err-push_entry-clause-numbers : goal.returns-in_err-push_entry-clause-numbers
returns-in_err-push_entry-clause-numbers t c = no_ok _ _ c.from_residual-in_err-push_entry.result c.from_residual-in_err-push_entry.ensures.1

pub returns-in_err-push-clause-entries : goal.returns-in_err-push-clause-entries
returns-in_err-push-clause-entries t c = no_ok _ _ c.from_residual-in_err-push.result c.from_residual-in_err-push.ensures.1

pub returns-in_err-push-clause-numbers : goal.returns-in_err-push-clause-numbers
returns-in_err-push-clause-numbers t c = no_ok _ _ c.from_residual-in_err-push.result c.from_residual-in_err-push.ensures.1
