-- Tables in code: their rows, columns and numbers.
use Rattle.std.proofs.Common.{◌≡◌, ◌≢◌, ◌↔◌, ◌⊎◌, inl, inr, ℕ, zero, suc, ◌+◌, ◌-◌, ◌<◌, Bool, true, false, IsTrue, List, [], ◌∷◌, ◌++◌, length, map, slice_get, drop, replicate, All, Contains, Option, Some, None, IsSomeAnd, refl, sym, ap, ◌∙◌, subst, arith}
use Rattle.std.proofs.lemmas.List.{append-nil, length-map}
use Rattle.std.proofs.lemmas.Bool.{cases_order}
use Rattle.std.proofs.lemmas.List.Elements.{Contains-push, Contains-push_cases, Contains-append_left, All-nil, All-cons, All-head, All-tail, All-drop}
use Rattle.trees.specs.declared.TermId.{TermId}
use Rattle.trees.specs.Tree.{Tree, Leaf, Two, HTyVar, HEnd, HCell}
use Rattle.trees.specs.Node.{tree_at, Holds}
use Rattle.tasks.specs.Task.{SymbolTree, symbol_or}
use Rattle.tasks.specs.Equations.{cells, type_variables}
use Rattle.tasks.specs.Meaning.{trees_at, symbol_at, symbols_at}
use Rattle.tasks.specs.declared.signature.SymbolInfo.{SymbolInfo}
use Rattle.checks.specs.match_cover.Shapes.{IsConstructorEntryOf}
use Rattle.checks.specs.match_cover.Tables.{tail, tails, cell, apart, opened_by, opened, one_if}
use Rattle.checks.specs.match_cover.Meaning.{row_at, table_at, RowHeld, TableHeld, single_pattern}
use Rattle.checks.proofs.match_cover.Answering.{alone}

-- ---- rows and columns
tail_at : (s : List Tree) (at : ℕ) (row : List TermId) → row_at s (suc at) row ≡ tail (row_at s at row)
tail_at s zero [] = refl
tail_at s zero (p ∷ row) = refl
tail_at s (suc at) [] = refl
tail_at s (suc at) (p ∷ row) = tail_at s at row

tails_next : (s : List Tree) (at : ℕ) (rows : List (List TermId)) → table_at s (suc at) rows ≡ tails (table_at s at rows)
tails_next s at [] = refl
tails_next s at (r ∷ rows) = ap (λ x. x ∷ table_at s (suc at) rows) (tail_at s at r) ∙ ap (λ y. tail (row_at s at r) ∷ y) (tails_next s at rows)

pub tails_at : (s : List Tree) (at : ℕ) (rows : List (List TermId)) → table_at s (at + 1) rows ≡ tails (table_at s at rows)
tails_at s at rows = let e : at + 1 ≡ suc at = omega arith in ap (λ n. table_at s n rows) e ∙ tails_next s at rows

pub table_some : (s : List Tree) (at : ℕ) (rows : List (List TermId)) → rows ≢ [] → table_at s at rows ≢ []
table_some s at [] n e = n refl
table_some s at (r ∷ rows) n e = cc

pub table_none : (s : List Tree) (at : ℕ) (rows : List (List TermId)) → rows ≡ [] → table_at s at rows ≡ []
table_none s at rows e = ap (table_at s at) e

-- ---- rows of one pattern each
pub table_alone : (s : List Tree) (ps : List TermId) → table_at s 0 (map single_pattern ps) ≡ alone (trees_at s ps)
table_alone s [] = refl
table_alone s (p ∷ ps) = ap (λ y. (tree_at s p ∷ []) ∷ y) (table_alone s ps)

pub alone_held : (s : List Tree) (ps : List TermId) → All (Holds s) ps → TableHeld s (map single_pattern ps)
alone_held s [] h = All-nil (RowHeld s)
alone_held s (p ∷ ps) h =
    All-cons (RowHeld s) (p ∷ []) (map single_pattern ps) (record { each = All-cons (Holds s) p [] (All-head (Holds s) p ps h) (All-nil (Holds s)) }) (alone_held s ps (All-tail (Holds s) p ps h))

pub held_after : (s : List Tree) (at : ℕ) (row : List TermId) → RowHeld s row → All (Holds s) (drop at row)
held_after s at row h = All-drop (Holds s) at row h.each

-- ---- a list of type variables
pub none_variables : (from count : ℕ) (e : Tree) → count ≡ 0 → (e ≡ Leaf HEnd) ↔ (e ≡ cells (type_variables from count))
none_variables from zero e z = (λ h. h, λ h. h)
none_variables from (suc n) e z = absurd (omega (arith, z))

abbrev first_or : Option (Tree × Tree) → Tree → Tree
first_or None d = d
first_or (Some q) d = q.0

abbrev rest_or : Option (Tree × Tree) → Tree → Tree
rest_or None d = d
rest_or (Some q) d = q.1

pub some_variables : (from count : ℕ) (e a b : Tree) → 0 < count → cell e ≡ Some (a, b)
    → ((a ≡ Leaf (HTyVar from)) × (b ≡ cells (type_variables (from + 1) (count - 1)))) ↔ (e ≡ cells (type_variables from count))
some_variables from zero e a b l c = absurd (omega arith)
some_variables from (suc n) (Two HCell x y) a b l c =
    let p : x ≡ a = ap (λ o. first_or o a) c in
    let q : y ≡ b = ap (λ o. rest_or o b) c in
    let z : suc n - 1 ≡ n = omega arith in
    let w : cells (type_variables (from + 1) (suc n - 1)) ≡ cells (type_variables (from + 1) n) = ap (λ m. cells (type_variables (from + 1) m)) z in (
      λ h. (let u : x ≡ Leaf (HTyVar from) = p ∙ h.0 in let v : y ≡ cells (type_variables (from + 1) n) = q ∙ h.1 ∙ w in ap (λ k. Two HCell k y) u ∙ ap (λ k. Two HCell (Leaf (HTyVar from)) k) v),
      λ h. (let u : x ≡ Leaf (HTyVar from) = cc in let v : y ≡ cells (type_variables (from + 1) n) = cc in (sym p ∙ u, sym q ∙ v ∙ sym w)),
    )
some_variables from (suc n) _ a b l c = absurd (cc)

pub no_variables : (from count : ℕ) (e : Tree) → 0 < count → cell e ≡ None → e ≡ cells (type_variables from count) → ⊥
no_variables from zero e l c h = omega arith
no_variables from (suc n) e l c h = let x : cell e ≡ Some (Leaf (HTyVar from), cells (type_variables (from + 1) n)) = ap cell h in cc

-- ---- what is beyond a signature has no fields
pub none_args : (s : List Tree) (is : List SymbolInfo) (k : ℕ) → slice_get is k ≡ None → 0 ≡ length (symbol_or (symbols_at s is) k).args
none_args s [] zero e = refl
none_args s [] (suc k) e = refl
none_args s (i ∷ is) zero e = absurd (cc)
none_args s (i ∷ is) (suc k) e = none_args s is k e

-- ---- a pattern that is not taken apart stands for each field
pub opened_none : (k n : ℕ) (p : Tree) (row : List Tree) → apart p ≡ None → opened k n p row ≡ (replicate n p ++ row) ∷ []
opened_none k n p row e = ap (λ o. opened_by k n o p row) e

pub trees_repeated : (s : List Tree) (n : ℕ) (p : TermId) → trees_at s (replicate n p) ≡ replicate n (tree_at s p)
trees_repeated s zero p = refl
trees_repeated s (suc n) p = ap (λ y. tree_at s p ∷ y) (trees_repeated s n p)

-- ---- numbers that were found so far
below_or : (i k : ℕ) → k < i + 1 → (k < i) ⊎ (k ≡ i)
below_or i k l = elim (cases_order k i) [ inl e ↦ inr e | inr h ↦ elim h [ inl m ↦ inl m | inr m ↦ absurd (omega arith) ] ]

module _ (P : ℕ → Type 0) (xs : List ℕ) (i : ℕ) (so : (k : ℕ) → Contains xs k ↔ ((k < i) × P k)) where
  found_more : P i → (k : ℕ) → Contains (xs ++ i ∷ []) k ↔ ((k < i + 1) × P k)
  found_more p k = (
    λ c. elim (Contains-push_cases xs i k c) [ inl d ↦ (let q = (so k).0 d in (omega (arith, q.0), q.1)) | inr e ↦ (omega (arith, e), subst P e p) ],
    λ q. elim (below_or i k q.0) [ inl l ↦ Contains-append_left xs (i ∷ []) k ((so k).1 (l, q.1)) | inr e ↦ subst (Contains (xs ++ i ∷ [])) (sym e) (Contains-push xs i) ],
  )

  found_same : (P i → ⊥) → (k : ℕ) → Contains xs k ↔ ((k < i + 1) × P k)
  found_same n k = (
    λ c. (let q = (so k).0 c in (omega (arith, q.0), q.1)),
    λ q. elim (below_or i k q.0) [ inl l ↦ (so k).1 (l, q.1) | inr e ↦ absurd (n (subst P e q.1)) ],
  )

  pub found_step : (b : Bool) (ys : List ℕ) → IsTrue b ↔ P i → ys ≡ xs ++ one_if b i → (k : ℕ) → Contains ys k ↔ ((k < i + 1) × P k)
  found_step true ys t e k = subst (λ zs. Contains zs k ↔ ((k < i + 1) × P k)) (sym e) (found_more (t.0 refl) k)
  found_step false ys t e k =
      subst (λ zs. Contains zs k ↔ ((k < i + 1) × P k)) (sym (e ∙ append-nil xs)) (found_same (λ p. (let f : false ≡ true = t.1 p in absurd (cc))) k)

  pub found_all : ((k : ℕ) → P k → k < i) → (k : ℕ) → Contains xs k ↔ P k
  found_all w k = (λ c. ((so k).0 c).1, λ p. (so k).1 (w k p, p))

some_within : (es : List SymbolTree) (Q : SymbolTree → Type 0) (k : ℕ) → IsSomeAnd (slice_get es k) Q → k < length es
some_within [] Q zero h = absurd h
some_within [] Q (suc k) h = absurd h
some_within (e ∷ es) Q zero h = omega arith
some_within (e ∷ es) Q (suc k) h = omega (arith, some_within es Q k h)

pub constructor_within : (s : List Tree) (is : List SymbolInfo) (t k n : ℕ) → n ≡ length is → IsConstructorEntryOf (symbols_at s is) t k → k < n
constructor_within s is t k n e h = omega (arith, some_within (symbols_at s is) _ k h, length-map is (symbol_at s), e)
