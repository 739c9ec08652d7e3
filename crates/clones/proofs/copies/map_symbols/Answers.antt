use Rattle.std.proofs.Common.{◌≡◌, ◌∷◌, [], ◌++◌, ℕ, List, map, take, get_or, sym, ap, ◌∙◌}
use Rattle.std.proofs.lemmas.List.{map_more, take_all}
use Rattle.clones.specs.Meaning.{map_at}
use Rattle.clones.proofs.copies.map_symbols.Goals as goal
use Rattle.tasks.proofs.outside.Passed.{no_value}

pub loop-symbol-preserved : goal.loop-symbol-preserved
loop-symbol-preserved c =
    let f = (map_at c.args.store.now c.args.morphism.now).symbols in
    let xs = c.args.symbols.now in
    let i = c.loop-symbol.symbol-index in
    let here : c.loop-symbol.out.items ++ c.map_symbol.result ∷ [] ≡ map f (take i xs) ++ f (get_or xs i 0) ∷ [] =
    ap (λ (z : List ℕ). z ++ c.map_symbol.result ∷ []) c.loop-symbol.invariant ∙ ap (λ (k : ℕ). map f (take i xs) ++ k ∷ []) c.map_symbol.ensures in
    c.in_ok-push.ensures.items ∙ here ∙ sym (map_more f xs i 0 c.loop-symbol-test.true)

pub returns : goal.returns
returns c =
    let f = (map_at c.args.store.now c.args.morphism.now).symbols in
    c.from_vec.ensures ∙ c.loop-symbol.invariant ∙ ap (map f) (take_all c.loop-symbol.symbol-index c.args.symbols.now c.loop-symbol-test.false)

pub returns-in_err-push : goal.returns-in_err-push
returns-in_err-push c = no_value _ _ c.from_residual.result c.from_residual.ensures.1
