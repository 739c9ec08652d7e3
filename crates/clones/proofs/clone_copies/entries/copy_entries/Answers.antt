use Rattle.std.proofs.Common.{◌≡◌, ◌∷◌, ◌++◌, [], ℕ, List, All, get_or, take, sym, ap, subst, ◌∙◌}
use Rattle.std.proofs.lemmas.List.{map-append, map_more, take_all}
use Rattle.std.proofs.lemmas.List.Elements.{All-nil, All-push}
use Rattle.tasks.specs.trees.Node.{Grows}
use Rattle.tasks.proofs.trees.Nodes.{Grows_refl, Grows_trans}
use Rattle.tasks.specs.declared.signature.SymbolInfo.{SymbolInfo}
use Rattle.tasks.specs.Task.{SymbolTree, symbol_or}
use Rattle.tasks.specs.Meaning.{symbol_at, symbols_at, SymbolHeld}
use Rattle.tasks.proofs.Growth.{symbol_later, symbols_later, symbol_held_later}
use Rattle.clones.specs.Mapped.{Map}
use Rattle.clones.specs.Meaning.{map_at}
use Rattle.clones.proofs.Steps.{map_held, map_stays, known_on, known_back}
use Rattle.clones.specs.Copies.{entry_copied}
use Rattle.clones.specs.clone_copies.Entries.{entries_copied}
use Rattle.clones.proofs.clone_copies.entries.copy_entries.Goals as goal
use Rattle.tasks.proofs.outside.Passed.{no_ok, no_value}

pub copy_entry-requires-clause-map_held : goal.copy_entry-requires-clause-map_held
copy_entry-requires-clause-map_held c = map_held c.args.store.now c.loop-symbol.store c.loop-symbol.invariant.grows c.args.morphism.now c.requires.map_held

pub copy_entry-requires-clause-known : goal.copy_entry-requires-clause-known
copy_entry-requires-clause-known c = known_on c.args.morphism.now c.args.store.now c.loop-symbol.store c.loop-symbol.invariant.grows c.requires.map_held c.loop-symbol.known c.loop-symbol.invariant.known

pub copy_entry-requires-clause-held : goal.copy_entry-requires-clause-held
copy_entry-requires-clause-held c = symbol_held_later c.args.store.now c.loop-symbol.store c.loop-symbol.invariant.grows c.entry_or-info.result.now (c.entry_or-info.ensures.held c.args.store.now c.requires.entries)

pub loop-symbol-preserved : goal.loop-symbol-preserved
loop-symbol-preserved c =
    let s = c.args.store.now in
    let s1 = c.loop-symbol.store in
    let s2 = c.copy_entry.new.store in
    let inv = c.loop-symbol.invariant in
    let w : Grows s s1 = inv.grows in
    let w2 : Grows s1 s2 = c.copy_entry.ensures.grows in
    let mo = c.args.morphism.now in
    let m = map_at s mo in
    let th = c.args.theory.now in
    let wi = c.args.within.now in
    let ks = c.args.symbols.now in
    let i = c.loop-symbol.symbol-index in
    let out = c.loop-symbol.out.items in
    let copy = c.in_ok-copy.copy in
    let info = c.entry_or-info.result.now in
    let symbols = symbols_at s c.args.sig.now.symbols in
    let copied : ℕ → SymbolTree = λ k. entry_copied m th wi (symbol_or symbols k) in
    let info_held = c.entry_or-info.ensures.held s c.requires.entries in
    let tree : symbol_at s2 copy ≡ copied (get_or ks i 0) = c.in_ok-copy.ensures.tree ∙ (ap (λ (v : Map). entry_copied v th wi (symbol_at s1 info)) (map_stays s s1 w mo c.requires.map_held) ∙ ap (entry_copied m th wi) (symbol_later s s1 w info info_held ∙ c.entry_or-info.ensures.entry s c.requires.int)) in
    let old : symbols_at s2 out ≡ entries_copied symbols m th wi (take i ks) = symbols_later s1 s2 w2 out inv.held ∙ inv.made in
    record {
      grows = Grows_trans s s1 s2 w w2;
      known = known_back mo s s1 w c.requires.map_held s2 c.copy_entry.new.known c.in_ok-copy.ensures.new_known;
      made = ap (symbols_at s2) c.in_ok-push.ensures.items ∙ (map-append (symbol_at s2) out (copy ∷ []) ∙ (ap (λ (z : List SymbolTree). z ++ symbol_at s2 copy ∷ []) old ∙ (ap (λ (e : SymbolTree). entries_copied symbols m th wi (take i ks) ++ e ∷ []) tree ∙ sym (map_more copied ks i 0 c.loop-symbol-test.true))));
      held = subst (λ (z : List SymbolInfo). All (SymbolHeld s2) z) (sym c.in_ok-push.ensures.items) (All-push (SymbolHeld s2) out copy (λ k d l. symbol_held_later s1 s2 w2 (get_or out k d) (inv.held k d l)) c.in_ok-copy.ensures.new_held);
    }

pub returns-in_err-copy-clause-made : goal.returns-in_err-copy-clause-made
returns-in_err-copy-clause-made c = no_value _ _ c.from_residual.result c.from_residual.ensures.1

pub returns-in_err-copy-clause-held : goal.returns-in_err-copy-clause-held
returns-in_err-copy-clause-held c = no_value _ _ c.from_residual.result c.from_residual.ensures.1

pub returns-in_err-copy-clause-known : goal.returns-in_err-copy-clause-known
returns-in_err-copy-clause-known c = no_ok _ _ c.from_residual.result c.from_residual.ensures.1

pub returns-in_err-push-clause-made : goal.returns-in_err-push-clause-made
returns-in_err-push-clause-made c = no_value _ _ c.from_residual-in_err-push.result c.from_residual-in_err-push.ensures.1

pub returns-in_err-push-clause-held : goal.returns-in_err-push-clause-held
returns-in_err-push-clause-held c = no_value _ _ c.from_residual-in_err-push.result c.from_residual-in_err-push.ensures.1

pub returns-in_err-push-clause-known : goal.returns-in_err-push-clause-known
returns-in_err-push-clause-known c = no_ok _ _ c.from_residual-in_err-push.result c.from_residual-in_err-push.ensures.1

pub loop-symbol-init : goal.loop-symbol-init
loop-symbol-init c =
    let s = c.args.store.now in
    record {
      grows = Grows_refl s;
      known = c.requires.known;
      made = ap (symbols_at s) c.new-out.ensures.items;
      held = subst (λ (z : List SymbolInfo). All (SymbolHeld s) z) (sym c.new-out.ensures.items) (All-nil (SymbolHeld s));
    }

pub returns-clause-made : goal.returns-clause-made
returns-clause-made c =
    let s = c.args.store.now in
    c.loop-symbol.invariant.made ∙ ap (entries_copied (symbols_at s c.args.sig.now.symbols) (map_at s c.args.morphism.now) c.args.theory.now c.args.within.now) (take_all c.loop-symbol.symbol-index c.args.symbols.now c.loop-symbol-test.false)

pub returns-clause-held : goal.returns-clause-held
returns-clause-held c = c.loop-symbol.invariant.held

pub returns-clause-known : goal.returns-clause-known
returns-clause-known c = c.loop-symbol.invariant.known

pub returns-clause-grows : goal.returns-clause-grows
returns-clause-grows c = c.loop-symbol.invariant.grows

pub returns-in_err-copy-clause-grows : goal.returns-in_err-copy-clause-grows
returns-in_err-copy-clause-grows c = Grows_trans c.args.store.now c.loop-symbol.store c.copy_entry.new.store c.loop-symbol.invariant.grows c.copy_entry.ensures.grows

pub returns-in_err-push-clause-grows : goal.returns-in_err-push-clause-grows
returns-in_err-push-clause-grows c = Grows_trans c.args.store.now c.loop-symbol.store c.copy_entry.new.store c.loop-symbol.invariant.grows c.copy_entry.ensures.grows
