-- The counters of open brackets after one token more.
use Rattle.grammar.proofs.recognise.Common.{◌≡◌, ℕ, zero, suc, ◌+◌, ◌<◌, ◌≤◌, ◌⊎◌, nat_lt, Bool, true, false, List, [], ◌∷◌, ◌++◌, length, take, get_or, inl, inr, refl, sym, ap, ◌∙◌, subst, arith, Terminal, nesting, nested, counters, depth, depth_at, most_nested, IsTooDeep}
use Rattle.std.proofs.lemmas.Bool.Decides.{nat_tests}

-- the counters after the tokens before a place, none of which is nested too deep
pub record Nested (xs : List Terminal) (i : ℕ) (ns : List ℕ) : Type 0 where
  pub counts : ns ≡ counters [] (take i xs)
  pub shallow : (j : ℕ) → j < i → depth_at xs j ≤ most_nested

take_more : (xs : List Terminal) (i : ℕ) (d : Terminal) → i < length xs → take (suc i) xs ≡ take i xs ++ (get_or xs i d ∷ [])
take_more [] i d l = absurd (omega (arith, l))
take_more (a ∷ xs) zero d l = refl
take_more (a ∷ xs) (suc i) d l = ap (λ v. a ∷ v) (take_more xs i d (omega (arith, l)))

below_or : (j i : ℕ) → j < i + 1 → (j < i) ⊎ (j ≡ i)
below_or j i lt = by_test (nat_lt j i) refl
  where
    by_test : (b : Bool) → nat_lt j i ≡ b → (j < i) ⊎ (j ≡ i)
    by_test true t = let less : j < i = grind (arith, nat_tests) in inl less
    by_test false t = let same : i ≤ j = grind (arith, nat_tests) in inr (omega arith)

counters-more : (ns : List ℕ) (xs : List Terminal) (x : Terminal) → counters ns (xs ++ x ∷ []) ≡ nested (nesting x) (counters ns xs)
counters-more ns [] x = refl
counters-more ns (y ∷ xs) x = counters-more (nested (nesting y) ns) xs x

counters_at : (xs : List Terminal) (i : ℕ) (d : Terminal) (ns : List ℕ) → i < length xs → ns ≡ counters [] (take i xs) → nested (nesting (get_or xs i d)) ns ≡ counters [] (take (i + 1) xs)
counters_at xs i d ns l h =
    let x = get_or xs i d in
    let one : suc i ≡ i + 1 = omega arith in
    ap (nested (nesting x)) h ∙ sym (counters-more [] (take i xs) x) ∙ ap (counters []) (sym (take_more xs i d l) ∙ ap (λ v. take v xs) one)

module _ (xs : List Terminal) (i : ℕ) (d : Terminal) (ns ms : List ℕ) (l : i < length xs) (h : Nested xs i ns) (n : ms ≡ nested (nesting (get_or xs i d)) ns) where
  depth_here : depth_at xs i ≡ depth ms
  depth_here = ap depth (sym (counters_at xs i d ns l h.counts) ∙ sym n)

  pub nested_more : depth ms ≤ most_nested → Nested xs (i + 1) ms
  nested_more low = record {
    counts = n ∙ counters_at xs i d ns l h.counts;
    shallow = λ j lt. elim (below_or j i lt) [ inl less ↦ h.shallow j less | inr same ↦ subst (λ v. depth_at xs v ≤ most_nested) (sym same) (let z = depth_here in omega (arith, z, low)) ];
  }

  pub nested_deep : most_nested < depth ms → IsTooDeep xs i
  nested_deep high = record { within = l; deep = let z = depth_here in omega (arith, z, high); first = h.shallow }
