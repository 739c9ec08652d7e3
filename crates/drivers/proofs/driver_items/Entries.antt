-- Turns of the search for the last entry.
use Rattle.std.proofs.Common.{◌≡◌, ℕ, ◌+◌, ◌<◌, Bool, cond, List, length, drop, get_or, Option, Some, None, refl, sym, ap, ◌∙◌}
use Rattle.std.proofs.lemmas.List.{drop_more}
use Rattle.drivers.specs.declared.driver_tokens.terminal.NameKind.{NameKind}
use Rattle.tasks.specs.declared.signature.SymbolInfo.{SymbolInfo}
use Rattle.drivers.specs.declared.driver_items.symbols.Target.{Target}
use Rattle.drivers.specs.declared.driver_items.symbols.Target.TheVariants.{Entry}
use Rattle.drivers.specs.driver_items.Symbols.{is_symbol_named, by_kind, target_or_later, entry_from}

or_twice : (a b c : Option (Target × ℕ)) → target_or_later a (target_or_later b c) ≡ target_or_later (target_or_later a b) c
or_twice a b (Some t) = refl
or_twice a b None = refl

-- with one symbol more
pub entry-turn : (path : List ℕ) (kind : NameKind) (name : List ℕ) (ss : List SymbolInfo) (i : ℕ) (d : SymbolInfo) (found : Option (Target × ℕ)) (b : Bool) → i < length ss → b ≡ is_symbol_named path kind name (get_or ss i d) → target_or_later found (entry_from path kind name i (drop i ss)) ≡ target_or_later (target_or_later found (cond b (Some (Entry i, by_kind (get_or ss i d).kind (get_or ss i d))) None)) (entry_from path kind name (i + 1) (drop (i + 1) ss))
entry-turn path kind name ss i d found b lt e =
    let s = get_or ss i d in
    ap (λ v. target_or_later found (entry_from path kind name i v)) (drop_more ss i d lt)
    ∙ ap (λ v. target_or_later found (target_or_later (cond v (Some (Entry i, by_kind s.kind s)) None) (entry_from path kind name (i + 1) (drop (i + 1) ss)))) (sym e)
    ∙ or_twice found (cond b (Some (Entry i, by_kind s.kind s)) None) (entry_from path kind name (i + 1) (drop (i + 1) ss))
