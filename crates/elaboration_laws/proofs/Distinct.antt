-- Lists in which no number occurs twice.
use Rattle.std.proofs.Common.{◌≡◌, ◌≢◌, ◌⊎◌, inl, inr, ℕ, ◌+◌, ◌≤◌, zero, suc, List, [], ◌∷◌, ◌++◌, get_or, AllPairs, refl, sym, arith}
use Rattle.std.specs.List.{range_with_len, Contains}
use Rattle.std.proofs.lemmas.List.Elements.{Contains-get_or, Contains-append_cases}
use Rattle.std.proofs.lemmas.List.Kept.{AllPairs-cons}
use Rattle.elab_groups.proofs.tasks.Declared.{contains_cases, contains_step, none_in}

abbrev pub IsDistinct : List ℕ → Type 0
IsDistinct [] = Unit {0}
IsDistinct (x ∷ xs) = (Contains xs x → ⊥) × IsDistinct xs

pub distinct_pairs : (xs : List ℕ) → IsDistinct xs → AllPairs (λ j k. j ≢ k) xs
distinct_pairs [] h = λ i j d l m. absurd (omega (arith, m))
distinct_pairs (x ∷ xs) h = AllPairs-cons (λ j k. j ≢ k) x xs (λ i d l q. h.0 (let e : x ≡ get_or xs i d = q in rw e (Contains-get_or xs i d l))) (distinct_pairs xs h.1)

pub pairs_distinct : (xs : List ℕ) → AllPairs (λ j k. j ≢ k) xs → IsDistinct xs
pairs_distinct [] h = tt
pairs_distinct (x ∷ xs) h = (
  (λ c. let q : get_or xs c.0 x ≡ x = c.2 in h 0 (suc c.0) x (omega arith) (let l = c.1 in omega (arith, l)) (sym q)),
  pairs_distinct xs (λ i j d l m. h (suc i) (suc j) d (omega arith) (omega (arith, m))),
)

pub distinct_both : (xs ys : List ℕ) → IsDistinct xs → IsDistinct ys → ((k : ℕ) → Contains xs k → Contains ys k → ⊥) → IsDistinct (xs ++ ys)
distinct_both [] ys h i f = i
distinct_both (x ∷ xs) ys h i f =
    ((λ c. of (Contains-append_cases xs ys x c)), distinct_both xs ys h.1 i (λ k a b. f k (contains_step x k xs (inr a)) b))
  where
    of : Contains xs x ⊎ Contains ys x → ⊥
    of (inl c) = h.0 c
    of (inr c) = f x (contains_step x x xs (inl refl)) c

-- ---- numbers that follow one another
pub range_contains : (a m j : ℕ) → Contains (range_with_len a m) j → a ≤ j
range_contains a zero j h = absurd (none_in j h)
range_contains a (suc m) j h = of (contains_cases a j (range_with_len (a + 1) m) h) (λ c. range_contains (a + 1) m j c)
  where
    of : (j ≡ a) ⊎ Contains (range_with_len (a + 1) m) j → (Contains (range_with_len (a + 1) m) j → a + 1 ≤ j) → a ≤ j
    of (inl q) f = omega (arith, q)
    of (inr c) f = let l = f c in omega (arith, l)

pub range_distinct : (a m : ℕ) → IsDistinct (range_with_len a m)
range_distinct a zero = tt
range_distinct a (suc m) = ((λ c. let l = range_contains (a + 1) m a c in omega (arith, l)), range_distinct (a + 1) m)
