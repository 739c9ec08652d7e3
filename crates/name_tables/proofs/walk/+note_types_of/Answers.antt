use Rattle.std.proofs.lemmas.Result.{on_ok_weaker}
use Rattle.name_tables.proofs.Steps.{sees_then}
use Rattle.name_tables.proofs.walk.+note_types_of.Goals as goal

pub returns-in_ok-note_type_of-in-Cell : goal.returns-in_ok-note_type_of-in-Cell
returns-in_ok-note_type_of-in-Cell t c =
    on_ok_weaker c.note_types_of.result (λ k. rw c.in-Cell.ensures.tree (sees_then c.args.store.now _ _ _ _ _ c.in_ok-note_type_of-in-Cell.ensures k)) c.note_types_of.ensures
