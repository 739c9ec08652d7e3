-- Lists that a loop walks: the first that passes a test, the parts of a path, and places that are joined.
use Rattle.std.proofs.Common.{◌≡◌, ℕ, zero, suc, ◌<◌, ◌≤◌, ◌+◌, Bool, true, false, cond, List, [], ◌∷◌, ◌++◌, map, length, get_or, take, drop, slice_get, Some, None, All, nat_eq, refl, sym, ap, subst, ◌∙◌, arith, add-one}
use Rattle.std.specs.List.{find, list_any}
use Rattle.std.specs.Prelude.{◌||◌}
use Rattle.std.proofs.lemmas.Bool.{ne_eqb}
use Rattle.std.proofs.lemmas.List.{drop_all, take_more}
use Rattle.std.proofs.lemmas.List.Elements.{All-push}
use Rattle.indexmap.specs.IndexSet.{insert_all, insert_key}
use Rattle.indexmap.proofs.SetLemmas.{set_all_push}

-- ---- the first that passes a test
module _ {X Y : Type 0} (p : Y → Bool) (f : X → Y) where
  next : (xs : List X) (i : ℕ) (d : X) → i < length xs → p (f (get_or xs i d)) ≡ false → find p (map f (drop i xs)) ≡ find p (map f (drop (suc i) xs))
  next [] i d h e = absurd (omega arith)
  next (x ∷ xs) zero d h e = ap (λ b. cond b (Some (f x)) (find p (map f xs))) e
  next (x ∷ xs) (suc i) d h e = next xs i d (omega arith) e

  pub passed : (xs : List X) (i : ℕ) (d : X) → i < length xs → p (f (get_or xs i d)) ≡ false → find p (map f (drop i xs)) ≡ find p (map f (drop (i + 1) xs))
  passed xs i d h e = next xs i d h e ∙ ap (λ n. find p (map f (drop n xs))) (sym (add-one i))

  pub found : (xs : List X) (i : ℕ) (d : X) → i < length xs → p (f (get_or xs i d)) ≡ true → slice_get (map f xs) i ≡ find p (map f (drop i xs))
  found [] i d h e = absurd (omega arith)
  found (x ∷ xs) zero d h e = sym (ap (λ b. cond b (Some (f x)) (find p (map f xs))) e)
  found (x ∷ xs) (suc i) d h e = found xs i d (omega arith) e

  pub none_left : (xs : List X) (i : ℕ) → length xs ≤ i → find p (map f (drop i xs)) ≡ None
  none_left xs i h = ap (λ z. find p (map f z)) (drop_all i xs h)

-- ---- places
key_below : (n : ℕ) (ks : List ℕ) (k : ℕ) → All (λ j. j < n) ks → k < n → All (λ j. j < n) (insert_key nat_eq ks k)
key_below n ks k a h = by (list_any (nat_eq k) ks) refl
  where
    by : (b : Bool) → list_any (nat_eq k) ks ≡ b → All (λ j. j < n) (insert_key nat_eq ks k)
    by true e = subst (All (λ j. j < n)) (sym (ap (λ (c : Bool). cond c ks (ks ++ k ∷ [])) e)) a
    by false e = subst (All (λ j. j < n)) (sym (ap (λ (c : Bool). cond c ks (ks ++ k ∷ [])) e)) (All-push (λ j. j < n) ks k a h)

-- joined places are below a number where all of them are
pub joined_below : (n : ℕ) (ks more : List ℕ) → All (λ j. j < n) ks → All (λ j. j < n) more → All (λ j. j < n) (insert_all nat_eq ks more)
joined_below n ks [] a b = a
joined_below n ks (k ∷ more) a b = joined_below n (insert_key nat_eq ks k) more (key_below n ks k a (b 0 0 (omega arith))) (λ i d h. b (suc i) d (omega arith))

-- a place that is greater than all others goes last
none_equal : (n : ℕ) (ks : List ℕ) → All (λ j. j < n) ks → list_any (nat_eq n) ks ≡ false
none_equal n [] a = refl
none_equal n (k ∷ ks) a =
    let below : k < n = a 0 0 (omega arith) in
    let rest : list_any (nat_eq n) ks ≡ false = none_equal n ks (λ i d h. a (suc i) d (omega arith)) in
    let other : nat_eq n k ≡ false = ne_eqb n k (λ e. absurd (omega (arith, e, below))) in
    ap (λ (b : Bool). b || list_any (nat_eq n) ks) other ∙ rest

pub place_last : (n : ℕ) (ks : List ℕ) → All (λ j. j < n) ks → insert_key nat_eq ks n ≡ ks ++ n ∷ []
place_last n ks a = ap (λ (b : Bool). cond b ks (ks ++ n ∷ [])) (none_equal n ks a)

-- one more place is joined
pub joined_more : (ks more : List ℕ) (i x : ℕ) → i < length more → x ≡ get_or more i 0 → insert_all nat_eq ks (take (i + 1) more) ≡ insert_key nat_eq (insert_all nat_eq ks (take i more)) x
joined_more ks more i x h q = ap (insert_all nat_eq ks) (take_more more i 0 h) ∙ set_all_push nat_eq ks (take i more) (get_or more i 0) ∙ ap (insert_key nat_eq (insert_all nat_eq ks (take i more))) (sym q)
