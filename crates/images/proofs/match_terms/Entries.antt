-- The entry of a number in a signature of a store.
use Rattle.std.proofs.Common.{◌≡◌, ℕ, List, Option, slice_get, option_map, sym, ap, ◌∙◌}
use Rattle.std.specs.Prelude.{unwrap_or}
use Rattle.std.proofs.lemmas.Option.{slice_get-map, unwrap_or-slice_get}
use Rattle.trees.specs.Tree.{Tree}
use Rattle.tasks.specs.declared.signature.SymbolInfo.{SymbolInfo}
use Rattle.tasks.specs.Task.{SymbolTree, int_symbol, symbol_or}
use Rattle.tasks.specs.Meaning.{symbol_at, symbols_at}

pub entry_is : (s : List Tree) (symbols : List SymbolInfo) (k : ℕ) (o : Option SymbolInfo) → slice_get symbols k ≡ o → symbol_or (symbols_at s symbols) k ≡ unwrap_or (option_map (symbol_at s) o) int_symbol
entry_is s symbols k o q = sym (unwrap_or-slice_get (symbols_at s symbols) k int_symbol) ∙ ap (λ (z : Option SymbolTree). unwrap_or z int_symbol) (slice_get-map (symbol_at s) symbols k ∙ ap (option_map (symbol_at s)) q)
