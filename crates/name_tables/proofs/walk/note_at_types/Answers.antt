use Rattle.std.proofs.lemmas.Result.{on_ok_weaker}
use Rattle.name_tables.proofs.Steps.{sees_in, sees_then}
use Rattle.name_tables.proofs.walk.note_at_types.Goals as goal

pub note-requires-clause-types : goal.note-requires-clause-types
note-requires-clause-types c = sees_in c.args.store.now _ _ _ c.in_ok-note_type.ensures

pub returns : goal.returns
returns c = on_ok_weaker c.note.result (sees_then c.args.store.now _ _ _ _ _ c.in_ok-note_type.ensures) c.note.ensures
