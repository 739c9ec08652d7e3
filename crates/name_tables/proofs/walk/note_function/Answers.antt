use Rattle.std.proofs.lemmas.Result.{on_ok_weaker}
use Rattle.name_tables.proofs.Steps.{sees_then}
use Rattle.name_tables.proofs.walk.note_function.Goals as goal

pub returns : goal.returns
returns c =
    on_ok_weaker c.note_at_types.result (λ k. sees_then c.args.store.now _ _ _ _ _ c.in_ok-note_types_of.ensures (sees_then c.args.store.now _ _ _ _ _ c.in_ok-note_type.ensures k)) c.note_at_types.ensures
