use Rattle.std.proofs.Common.{sym, ◌∙◌}
use Rattle.std.proofs.lemmas.Result.{on_ok_weaker}
use Rattle.trees.specs.Node.{tree_at}
use Rattle.name_tables.specs.Occurrences.{in_type, occurrence}
use Rattle.name_tables.proofs.Steps.{type_there, sees_in, sees_then}
use Rattle.name_tables.proofs.walk.+note_type.Goals as goal

pub returns-then-has_key : goal.returns-then-has_key
returns-then-has_key t c =
    let s = c.args.store.now in
    rw c.in-TyApp.ensures.tree (type_there s c.args.seen.now.keys c.in-TyApp.symbol (tree_at s c.in-TyApp.args) c.requires.seen (sym c.has_key.ensures ∙ c.if-has_key.true))

pub note-requires-in-TyApp-clause-types : goal.note-requires-in-TyApp-clause-types
note-requires-in-TyApp-clause-types t c = sees_in c.args.store.now _ _ _ c.in_ok-note_type-in-TyApp.ensures

pub returns-in_ok-note_type-in-TyApp : goal.returns-in_ok-note_type-in-TyApp
returns-in_ok-note_type-in-TyApp t c =
    on_ok_weaker c.note-in-TyApp.result (λ k. rw c.in-TyApp.ensures.tree (sees_then c.args.store.now _ _ _ _ _ c.in_ok-note_type-in-TyApp.ensures k)) c.note-in-TyApp.ensures

pub returns-in_ok-note_type-in-Cell : goal.returns-in_ok-note_type-in-Cell
returns-in_ok-note_type-in-Cell t c =
    on_ok_weaker c.note_type-in-Cell-2.result (λ k. rw c.in-Cell.ensures.tree (sees_then c.args.store.now _ _ _ _ _ c.in_ok-note_type-in-Cell.ensures k)) c.note_type-in-Cell-2.ensures
