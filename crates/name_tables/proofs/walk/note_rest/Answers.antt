use Rattle.std.proofs.lemmas.Result.{on_ok_weaker}
use Rattle.name_tables.proofs.Loops.{rest_gathered}
use Rattle.name_tables.proofs.walk.note_rest.Goals as goal

pub returns : goal.returns
returns c =
    on_ok_weaker c.note_term.result (rest_gathered c.args.store.now c.args.task.now c.as_slice.result.now c.as_slice-2.result.now _ _ _ _ _ _ c.as_slice.ensures c.as_slice-2.ensures c.in_ok-note_types.ensures c.in_ok-note_formulas.ensures) c.note_term.ensures
