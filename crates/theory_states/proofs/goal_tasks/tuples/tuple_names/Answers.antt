use Rattle.std.proofs.Common.{◌≡◌, ◌+◌, ◌<◌, ◌++◌, ◌∷◌, [], List, true, false, length, drop, get_or, subst, ap, ◌∙◌, Option, Some, None, refl, sym, ℕ}
use Rattle.std.proofs.lemmas.List.{drop_all}
use Rattle.tasks.specs.Meaning.{symbol_at, symbols_at}
use Rattle.tasks.specs.declared.signature.SymbolInfo.{SymbolInfo}
use Rattle.theory_states.specs.declared.goal_tasks.tuples.TupleName.{TupleName}
use Rattle.theory_states.specs.goal_tasks.Tuples.{symbol_of_width}
use Rattle.tasks.specs.Entries.{is_tuple, tuple_from}
use Rattle.theory_states.proofs.goal_tasks.TupleNames.{or_number, names_more, names_same}
use Rattle.theory_states.proofs.goal_tasks.tuples.tuple_names.Goals.{then-is_tuple+in_ok-push, else-is_tuple}
use Rattle.theory_states.proofs.goal_tasks.tuples.tuple_names.Goals as goal
use Rattle.tasks.proofs.outside.Passed.{no_value}

or_nothing : (m : Option ℕ) → or_number m None ≡ m
or_nothing None = refl
or_nothing (Some k) = refl

pub loop-symbol-preserved : goal.loop-symbol-preserved
loop-symbol-preserved c =
    let xs = c.args.symbols.now in
    let i = c.loop-symbol.symbol in
    let d = c.index-symbols-symbol.result in
    let old = c.loop-symbol.names.items in
    let l : i < length xs = c.loop-symbol-test.true in
    elim c.if-is_tuple.branch [
      | then-is_tuple+in_ok-push w ↦ λ s n.
          let f : is_tuple (get_or xs i d).vars (symbol_at s (get_or xs i d)) ≡ true = subst (λ (x : SymbolInfo). is_tuple x.vars (symbol_at s x) ≡ true) c.index-symbols-symbol.is (c.is_tuple.ensures s ∙ w.if-is_tuple.true) in
          let q : c.if-is_tuple.names.items ≡ old ++ record { width = (get_or xs i d).vars; symbol = i } ∷ [] = ap (λ v. v.items) w.names-is ∙ (w.in_ok-push.ensures.items ∙ ap (λ (x : SymbolInfo). old ++ record { width = x.vars; symbol = i } ∷ []) c.index-symbols-symbol.is) in
          ap (λ (ts : List TupleName). or_number (symbol_of_width ts n) (tuple_from n (i + 1) (symbols_at s (drop (i + 1) xs)))) q ∙ (names_more s i xs d l old n f ∙ c.loop-symbol.invariant s n)
      | else-is_tuple w ↦ λ s n.
          let f : is_tuple (get_or xs i d).vars (symbol_at s (get_or xs i d)) ≡ false = subst (λ (x : SymbolInfo). is_tuple x.vars (symbol_at s x) ≡ false) c.index-symbols-symbol.is (c.is_tuple.ensures s ∙ w.if-is_tuple.false) in
          let q : c.if-is_tuple.names.items ≡ old = ap (λ v. v.items) w.names-is in
          ap (λ (ts : List TupleName). or_number (symbol_of_width ts n) (tuple_from n (i + 1) (symbols_at s (drop (i + 1) xs)))) q ∙ (names_same s i xs d l old n f ∙ c.loop-symbol.invariant s n)
    ]

pub returns-in_err-push : goal.returns-in_err-push
returns-in_err-push c = no_value _ _ c.from_residual.result c.from_residual.ensures.1

pub returns : goal.returns
returns c = λ s n.
    let l = c.loop-symbol in
    let m = symbol_of_width l.names.items n in
    sym (or_nothing m) ∙ ap (λ (xs : List SymbolInfo). or_number m (tuple_from n l.symbol (symbols_at s xs))) (sym (drop_all l.symbol c.args.symbols.now c.loop-symbol-test.false)) ∙ l.invariant s n
