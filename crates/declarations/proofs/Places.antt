-- Names that are looked for in lists one after another.
use Rattle.std.proofs.Common.{◌≡◌, ℕ, ◌+◌, zero, suc, List, [], ◌∷◌, ◌++◌, length, map, slice_get, Some, refl, sym, ap, ◌∙◌, arith}
use Rattle.std.proofs.lemmas.List.{map-append}
use Rattle.tasks.specs.declared.facts.Fact.{Fact}
use Rattle.tasks.specs.Task.{SymbolTree, DeclarationTree}
use Rattle.tasks.specs.Facts.{said_in}
use Rattle.tasks.specs.Looking.{fact_name}
use Rattle.declarations.specs.Said.{Sayings, said_from}

pub slice_left : {A : Type 0} (xs ys zs : List A) (k : ℕ) (x : A) → zs ≡ xs ++ ys → slice_get xs k ≡ Some x → slice_get zs k ≡ Some x
slice_left [] ys zs k x q e = absurd (cc)
slice_left {A} (y ∷ xs) ys zs zero x q e = ap (λ (z : List A). slice_get z 0) q ∙ e
slice_left {A} (y ∷ xs) ys zs (suc k) x q e = ap (λ (z : List A). slice_get z (suc k)) q ∙ slice_left xs ys (xs ++ ys) k x refl e

pub slice_right : {A : Type 0} (xs ys : List A) (k left : ℕ) → length xs + left ≡ k → slice_get (xs ++ ys) k ≡ slice_get ys left
slice_right [] ys k left e = let n : k ≡ left = omega arith in ap (slice_get ys) n
slice_right (x ∷ xs) ys zero left e = absurd (omega arith)
slice_right (x ∷ xs) ys (suc k) left e = slice_right xs ys k left (omega arith)

module _ (w : Sayings) (symbols : List SymbolTree) (n : ℕ) (d : DeclarationTree) (ds : List DeclarationTree) (k : ℕ) where
  abbrev own : List Fact
  own = map fact_name (w symbols n d)

  abbrev later : ℕ → List Fact
  later m = map fact_name (said_from w symbols m ds)

  names_joined : map fact_name (said_from w symbols n (d ∷ ds)) ≡ own ++ later (n + said_in d.body)
  names_joined = map-append fact_name (w symbols n d) (said_from w symbols (n + said_in d.body) ds)

  pub origin_here : (name : Fact) → slice_get own k ≡ Some name → Some name ≡ slice_get (map fact_name (said_from w symbols n (d ∷ ds))) k
  origin_here name e = sym (slice_left own (later (n + said_in d.body)) (map fact_name (said_from w symbols n (d ∷ ds))) k name names_joined e)

  pub origin_after : (left next : ℕ) → length own + left ≡ k → next ≡ n + said_in d.body → slice_get (later next) left ≡ slice_get (map fact_name (said_from w symbols n (d ∷ ds))) k
  origin_after left next e q =
      ap (λ (m : ℕ). slice_get (later m) left) q ∙ sym (ap (λ (z : List Fact). slice_get z k) names_joined ∙ slice_right own (later (n + said_in d.body)) k left e)
