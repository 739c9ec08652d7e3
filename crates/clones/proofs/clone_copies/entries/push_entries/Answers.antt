use Rattle.std.proofs.Common.{◌++◌, List, All, get_or, sym, ap, subst, ◌∙◌}
use Rattle.std.proofs.lemmas.List.{map-append}
use Rattle.std.proofs.lemmas.List.Elements.{All-append}
use Rattle.std.proofs.lemmas.Result.{on_ok_weaker}
use Rattle.tasks.specs.declared.signature.SymbolInfo.{SymbolInfo}
use Rattle.tasks.specs.Task.{SymbolTree}
use Rattle.tasks.specs.Meaning.{symbol_at, symbols_at, SymbolHeld}
use Rattle.tasks.proofs.Growth.{symbols_later, symbol_held_later}
use Rattle.clones.proofs.clone_copies.entries.push_entries.Goals as goal
use Rattle.tasks.proofs.outside.Passed.{no_ok}

pub returns-clause-symbols : goal.returns-clause-symbols
returns-clause-symbols c =
    let s = c.args.store.now in
    let s1 = c.copy_entries.new.store in
    let old = c.args.sig.now.symbols in
    let copies = c.in_ok-copies.copies.items in
    on_ok_weaker c.append.result (λ h. ap (symbols_at s1) (h ∙ ap (λ (z : List SymbolInfo). old ++ z) c.from_vec.ensures)
    ∙ (map-append (symbol_at s1) old copies ∙ (ap (λ (z : List SymbolTree). z ++ symbols_at s1 copies) (symbols_later s s1 c.copy_entries.ensures.grows old c.requires.entries) ∙ ap (λ (z : List SymbolTree). symbols_at s old ++ z) c.in_ok-copies.ensures.made))) c.append.ensures.ok

pub returns-clause-held : goal.returns-clause-held
returns-clause-held c =
    let s = c.args.store.now in
    let s1 = c.copy_entries.new.store in
    let old = c.args.sig.now.symbols in
    let copies = c.in_ok-copies.copies.items in
    on_ok_weaker c.append.result (λ h. subst (λ (z : List SymbolInfo). All (SymbolHeld s1) z) (sym (h ∙ ap (λ (z : List SymbolInfo). old ++ z) c.from_vec.ensures)) (All-append (SymbolHeld s1) old copies (λ k d l. symbol_held_later s s1 c.copy_entries.ensures.grows (get_or old k d) (c.requires.entries k d l)) c.in_ok-copies.ensures.held)) c.append.ensures.ok

pub returns-in_err-copies-clause-symbols : goal.returns-in_err-copies-clause-symbols
returns-in_err-copies-clause-symbols c = no_ok _ _ c.from_residual.result c.from_residual.ensures.1

pub returns-in_err-copies-clause-held : goal.returns-in_err-copies-clause-held
returns-in_err-copies-clause-held c = no_ok _ _ c.from_residual.result c.from_residual.ensures.1

pub returns-in_err-copies-clause-known : goal.returns-in_err-copies-clause-known
returns-in_err-copies-clause-known c = no_ok _ _ c.from_residual.result c.from_residual.ensures.1

pub copy_entries-requires-clause-int : goal.copy_entries-requires-clause-int
copy_entries-requires-clause-int c = c.requires.int

pub copy_entries-requires-clause-entries : goal.copy_entries-requires-clause-entries
copy_entries-requires-clause-entries c = c.requires.entries

pub copy_entries-requires-clause-map_held : goal.copy_entries-requires-clause-map_held
copy_entries-requires-clause-map_held c = c.requires.map_held

pub copy_entries-requires-clause-known : goal.copy_entries-requires-clause-known
copy_entries-requires-clause-known c = c.requires.known

pub returns-in_err-copies-clause-grows : goal.returns-in_err-copies-clause-grows
returns-in_err-copies-clause-grows c = c.copy_entries.ensures.grows

pub returns-clause-grows : goal.returns-clause-grows
returns-clause-grows c = c.copy_entries.ensures.grows
