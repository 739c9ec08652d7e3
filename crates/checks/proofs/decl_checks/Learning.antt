-- Entries that a signature lacks, tuples that are written out, and the parts of patterns.
use Rattle.std.proofs.Common.{◌≡◌, ℕ, zero, suc, ◌==◌, Bool, true, false, ◌&&◌, if◌then◌else◌, List, [], ◌∷◌, slice_get, Some, None, refl, ap}
use Rattle.trees.specs.Tree.{Tree, Three, HFun, HPatCon}
use Rattle.tasks.specs.Task.{SymbolTree, int_symbol, symbol_or}
use Rattle.tasks.specs.Meaning.{symbol_at, symbols_at}
use Rattle.tasks.specs.declared.signature.SymbolInfo.{SymbolInfo}
use Rattle.checks.specs.decl_checks.Structure.{is_tuple_constructor, components, parts_bound, bound_to}
use Rattle.trees.specs.laws.Indices.{eqb_true as same_number, eqb_other as other_number}

-- ---- an entry that isn't there
pub absent : (s : List Tree) (is : List SymbolInfo) (k : ℕ) → slice_get is k ≡ None → symbol_or (symbols_at s is) k ≡ int_symbol
absent s [] zero e = refl
absent s [] (suc k) e = refl
absent s (i ∷ is) zero e = absurd (cc)
absent s (i ∷ is) (suc k) e = absent s is k e

pub present : (s : List Tree) (is : List SymbolInfo) (k : ℕ) (i : SymbolInfo) → slice_get is k ≡ Some i → symbol_or (symbols_at s is) k ≡ symbol_at s i
present s [] k i e = absurd (cc)
present s (j ∷ is) zero i e = let q : j ≡ i = cc in ap (symbol_at s) q
present s (j ∷ is) (suc k) i e = present s is k i e

-- ---- tuples that are written out

chosen : (a b : Bool) (x : Tree) → a ≡ true → b ≡ true → (if a && b then Some x else None) ≡ Some x
chosen true true x p q = refl
chosen true false x p q = absurd (cc)
chosen false b x p q = absurd (cc)

left_out : (a b : Bool) (x : Tree) → a ≡ false → (if a && b then Some x else None) ≡ None
left_out true b x p = absurd (cc)
left_out false b x p = refl

left_out_too : (a b : Bool) (x : Tree) → b ≡ false → (if a && b then Some x else None) ≡ None
left_out_too true true x p = absurd (cc)
left_out_too true false x p = refl
left_out_too false b x p = refl

module _ (symbols : List SymbolTree) (c f : ℕ) (types args type : Tree) where
  pub tuple_args : f ≡ c → is_tuple_constructor (symbol_or symbols f) ≡ true → components symbols false c (Three (HFun f) types args type) ≡ Some args
  tuple_args e t = chosen (f == c) (is_tuple_constructor (symbol_or symbols f)) args (same_number f c e) t

  pub other_constructor : (f ≡ c → ⊥) → components symbols false c (Three (HFun f) types args type) ≡ None
  other_constructor n = left_out (f == c) (is_tuple_constructor (symbol_or symbols f)) args (other_number f c n)

  pub not_tuple : is_tuple_constructor (symbol_or symbols f) ≡ false → components symbols false c (Three (HFun f) types args type) ≡ None
  not_tuple t = left_out_too (f == c) (is_tuple_constructor (symbol_or symbols f)) args t

pub none_inside : (symbols : List SymbolTree) (c : ℕ) (e : Tree) → components symbols true c e ≡ None
none_inside symbols c e = refl

-- ---- the variables of patterns
module _ (symbols : List SymbolTree) (inside : Bool) (e : Tree) (c : ℕ) (types parts type : Tree) where
  pub by_parts : (args : Tree) → components symbols inside c e ≡ Some args → bound_to symbols inside e (Three (HPatCon c) types parts type) ≡ bound_to symbols false args parts
  by_parts args q = ap (λ o. parts_bound o (λ under t. bound_to symbols under t parts) e) q

  pub by_constructor : components symbols inside c e ≡ None → bound_to symbols inside e (Three (HPatCon c) types parts type) ≡ bound_to symbols true e parts
  by_constructor q = ap (λ o. parts_bound o (λ under t. bound_to symbols under t parts) e) q
