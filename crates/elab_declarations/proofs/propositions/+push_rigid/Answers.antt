use Rattle.std.proofs.Common.{sym, subst}
use Rattle.elab_groups.specs.open_types.Scoped.{IsScopedEntry}
use Rattle.elab_groups.proofs.parts.Entering.{rigid_typed, rigid_scoped}
use Rattle.elab_declarations.proofs.propositions.+push_rigid.Goals as goal

pub push_entry-requires-clause-typed : goal.push_entry-requires-clause-typed
push_entry-requires-clause-typed t c = rigid_typed c.args.store.now c.in_ok-info.info c.as_slice.result.now (c.in_ok-info.ensures c.args.store.now)

pub push_entry-requires-clause-scoped : goal.push_entry-requires-clause-scoped
push_entry-requires-clause-scoped t c = subst IsScopedEntry (sym (c.in_ok-info.ensures c.args.store.now)) (rigid_scoped c.as_slice.result.now)
