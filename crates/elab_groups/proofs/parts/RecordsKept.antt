-- The record to which the entry of a field belongs stays over further entries.
use Rattle.std.proofs.Common.{◌≡◌, ℕ, ◌<◌, ◌≤◌, zero, suc, Bool, true, false, cond, List, ◌++◌, length, Option, Some, None, IfSome, option_map, refl, sym, ap, ◌∙◌, arith}
use Rattle.std.proofs.Math.ListN.{get_or-append}
use Rattle.tasks.specs.Task.{SymbolTree, symbol_or, int_symbol}
use Rattle.name_resolution.specs.Records.{is_projection, constructor_before, is_record}
use Rattle.elab_groups.specs.parts.Alike.{RecordShape, record_shape}

pub before_below : (symbols : List SymbolTree) (k : ℕ) → constructor_before symbols k ≤ k
before_below symbols zero = omega arith
before_below symbols (suc k) = of (is_projection (symbol_or symbols (suc k)).kind) (before_below symbols k)
  where
    of : (b : Bool) → constructor_before symbols k ≤ k → cond b (constructor_before symbols k) (suc k) ≤ suc k
    of true l = omega (arith, l)
    of false l = omega arith

abbrev shape_of : ℕ → ℕ → SymbolTree → RecordShape
shape_of k c e = record { number = k; constructor = c; is = is_record e; fields = length e.args }

module _ (symbols more : List SymbolTree) where
  pub entry_kept : (k : ℕ) → k < length symbols → symbol_or symbols k ≡ symbol_or (symbols ++ more) k
  entry_kept k l = sym (get_or-append symbols more int_symbol k l)

  pub before_kept : (k : ℕ) → k < length symbols → constructor_before symbols k ≡ constructor_before (symbols ++ more) k
  before_kept zero l = refl
  before_kept (suc k) l =
      ap (λ (e : SymbolTree). cond (is_projection e.kind) (constructor_before symbols k) (suc k)) (entry_kept (suc k) l)
      ∙ ap (λ (j : ℕ). cond (is_projection (symbol_or (symbols ++ more) (suc k)).kind) j (suc k)) (before_kept k (omega (arith, l)))

  pub record_kept : (k : ℕ) → k < length symbols → record_shape symbols k ≡ record_shape (symbols ++ more) k
  record_kept k l =
      let c = constructor_before symbols k in
      let d = constructor_before (symbols ++ more) k in
      let q : constructor_before symbols k ≡ constructor_before (symbols ++ more) k = before_kept k l in
      let e : symbol_or symbols c ≡ symbol_or (symbols ++ more) d = entry_kept c (omega (arith, l, before_below symbols k)) ∙ ap (symbol_or (symbols ++ more)) q in
      ap (λ (i : ℕ). shape_of k i (symbol_or symbols c)) q ∙ ap (shape_of k d) e

  pub records_kept : (m : Option ℕ) → IfSome m (λ (k : ℕ). k < length symbols) → option_map (record_shape symbols) m ≡ option_map (record_shape (symbols ++ more)) m
  records_kept None h = refl
  records_kept (Some k) h = ap (λ (s : RecordShape). Some s) (record_kept k h)
