use Rattle.std.proofs.Common.{◌≡◌, cond, List, length, Some, None, sym, refl, ap, ◌∙◌}
use Rattle.std.proofs.lemmas.Option.{slice_get_read}
use Rattle.std.specs.Option.{option_map}
use Rattle.std.specs.HashMap.{get}
use Rattle.tasks.specs.trees.declared.TermId.{TermId}
use Rattle.tasks.specs.Meaning.{trees_at}
use Rattle.name_tables.specs.declared.name_entries.names.NameEntry.{NameEntry}
use Rattle.step_lines.specs.tree_lines.Named.{meaning, cells}
use Rattle.step_lines.specs.tree_lines.Made.{named_meaning}
use Rattle.step_writing.specs.tree_writing.Spelt.{Key, same_key}
use Rattle.step_writing.proofs.tree_writing.Noting.{noted_grown, noted_none, noted_more}
use Rattle.step_writing.proofs.tree_writing.spelling.add_name.Goals as goal

pub returns-in_default-clause-noted : goal.returns-in_default-clause-noted
returns-in_default-clause-noted c =
    let there = slice_get_read c.args.table.now (length c.args.table.now) c.args.place c.index-table-place.result refl c.requires.within c.index-table-place.is in
    let none : meaning c.args.table.now c.index-table-place.result.name ≡ None = ap (meaning c.args.table.now) (ap (λ (n : NameEntry). n.name) c.index-table-place.is ∙ sym c.as_slice.ensures) ∙ sym c.in_ok-named.ensures.meaning ∙ ap (option_map (named_meaning c.meaning_of.new.store)) c.in_default.is in
    noted_none c.args.table.now c.meaning_of.new.store c.args.places.now c.args.place c.index-table-place.result there none
    (noted_grown c.args.table.now c.args.store.now c.meaning_of.new.store c.args.places.now c.args.place c.in_ok-named.ensures.grows c.requires.noted)

pub returns-clause-noted : goal.returns-clause-noted
returns-clause-noted c =
    let s = c.meaning_of.new.store in
    let there = slice_get_read c.args.table.now (length c.args.table.now) c.args.place c.index-table-place.result refl c.requires.within c.index-table-place.is in
    let known : meaning c.args.table.now c.index-table-place.result.name ≡ Some (named_meaning s c.in-Some.named) = ap (meaning c.args.table.now) (ap (λ (n : NameEntry). n.name) c.index-table-place.is ∙ sym c.as_slice.ensures) ∙ sym c.in_ok-named.ensures.meaning ∙ ap (option_map (named_meaning s)) c.in-Some.is in
    noted_more c.args.table.now c.type_list.new.store c.args.places.now c.insert.new.self c.args.place c.index-table-place.result (named_meaning s c.in-Some.named) c.in_ok-list.list there known c.in_ok-list.ensures.held
    (c.in_ok-list.ensures.tree ∙ ap (λ (ids : List TermId). cells (trees_at s ids)) c.deref.ensures.value)
    (λ q. c.in_ok-insert.ensures.updates.0 q ∙ ap (λ (k : Key). cond (same_key k q) (Some c.args.place) (get same_key c.args.places.now q)) c.lookup_key.ensures)
    (noted_grown c.args.table.now s c.type_list.new.store c.args.places.now c.args.place c.in_ok-list.ensures.grows
    (noted_grown c.args.table.now c.args.store.now s c.args.places.now c.args.place c.in_ok-named.ensures.grows c.requires.noted))
