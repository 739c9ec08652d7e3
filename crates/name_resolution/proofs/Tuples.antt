-- The first constructor of tuples of a width, looked for in order.
use Rattle.std.proofs.Common.{◌≡◌, ℕ, ◌+◌, ◌<◌, Bool, true, false, cond, List, ◌∷◌, drop, drop-cons, length, get_or, suc, Some, refl, ap, ◌∙◌, add-one}
use Rattle.tasks.specs.trees.Tree.{Tree}
use Rattle.tasks.specs.declared.signature.SymbolInfo.{SymbolInfo}
use Rattle.tasks.specs.Task.{SymbolTree}
use Rattle.tasks.specs.Meaning.{symbol_at, symbols_at}
use Rattle.name_resolution.specs.Naming.{is_tuple, tuple_from}

from_here : (w k : ℕ) (e : SymbolTree) (es : List SymbolTree) (b : Bool) → is_tuple w e ≡ b → tuple_from w k (e ∷ es) ≡ cond b (Some k) (tuple_from w (suc k) es)
from_here w k e es b h = rw h refl

module _ (s : List Tree) (w i : ℕ) (xs : List SymbolInfo) (d : SymbolInfo) (l : i < length xs) where
  split : tuple_from w i (symbols_at s (drop i xs)) ≡ tuple_from w i (symbol_at s (get_or xs i d) ∷ symbols_at s (drop (suc i) xs))
  split = ap (λ (ys : List SymbolInfo). tuple_from w i (symbols_at s ys)) (drop-cons xs i d l)

  pub tuple_next : is_tuple w (symbol_at s (get_or xs i d)) ≡ false → tuple_from w i (symbols_at s (drop i xs)) ≡ tuple_from w (i + 1) (symbols_at s (drop (i + 1) xs))
  tuple_next h = rw add-one (split ∙ from_here w i (symbol_at s (get_or xs i d)) (symbols_at s (drop (suc i) xs)) false h)

  pub tuple_here : is_tuple w (symbol_at s (get_or xs i d)) ≡ true → tuple_from w i (symbols_at s (drop i xs)) ≡ Some i
  tuple_here h = split ∙ from_here w i (symbol_at s (get_or xs i d)) (symbols_at s (drop (suc i) xs)) true h
