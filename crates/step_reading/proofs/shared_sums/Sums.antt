-- Sums of multiples by numbers: what a multiple that is taken away, put or taken last changes.
use Rattle.std.proofs.Common.{◌≡◌, ℕ, ◌+◌, ◌≤◌, ◌<◌, suc, get_or, Ordering, Less, Equal, Greater, Bool, true, false, cond, List, [], ◌∷◌, ◌++◌, length, Option, Some, None, refl, sym, arith}
use Rattle.std.proofs.Math.IntN.{ℤ, ◌+ℤ◌, ◌*ℤ◌, *ℤ_comm}
use Rattle.std.proofs.lemmas.Int.{ints}
use Rattle.std.specs.Ordering.{nat_cmp, is_eq, match_ordering}
use Rattle.std.specs.Map.{keys_of, lookup, remove_entry}
use Rattle.std.specs.BTreeMap.{is_at, insert_entry}
use Rattle.std.proofs.lemmas.Cmp.{ranked}
use Rattle.trees.specs.Tree.{Tree}
use Rattle.trees.specs.declared.ints.Ints.{Ints}
use Rattle.linear_leaf.proofs.Integers.{mul-add}
use Rattle.step_reading.specs.shared_sums.Pending.{weighed, above_numbers, IsTerm, HaveTerms}

pub add-mul : (a b k : ℤ) → (a +ℤ b) *ℤ k ≡ a *ℤ k +ℤ b *ℤ k
add-mul a b k = let e = mul-add k a b in let x = *ℤ_comm (a +ℤ b) k in let y = *ℤ_comm a k in let w = *ℤ_comm b k in omega (arith, ints)

-- the number of an entry that a search by a number finds
at_number : (k j : ℕ) (o : Ordering) → o ≡ nat_cmp k j → is_eq o ≡ true → j ≡ k
at_number k j Less h e = absurd (cc e)
at_number k j Equal h e = sym (ranked k j Equal h)
at_number k j Greater h e = absurd (cc e)

found : (k j : ℕ) → is_at (nat_cmp k) j ≡ true → j ≡ k
found k j e = at_number k j (nat_cmp k j) refl e

-- a multiple taken away
taken : (f : ℕ → ℤ) (c : Bool) (k : ℕ) (e : ℕ × ℤ) (es rs : List (ℕ × ℤ)) (n : ℤ) (o : Option ℤ) → (c ≡ true → e.0 ≡ k) → cond c (Some e.1) o ≡ Some n
    → (o ≡ Some n → weighed f rs +ℤ n *ℤ f k ≡ weighed f es) → weighed f (cond c es (e ∷ rs)) +ℤ n *ℤ f k ≡ weighed f (e ∷ es)
taken f true k e es rs n o one h g =
    let a = one refl in let b : e.1 ≡ n = cc h in let w : e.1 *ℤ f e.0 ≡ n *ℤ f k = cc in omega (arith, ints)
taken f false k e es rs n o one h g = let r = g h in omega (arith, ints)

pub weighed_remove : (f : ℕ → ℤ) (k : ℕ) (es : List (ℕ × ℤ)) (n : ℤ) → lookup (is_at (nat_cmp k)) es ≡ Some n → weighed f (remove_entry (is_at (nat_cmp k)) es) +ℤ n *ℤ f k ≡ weighed f es
weighed_remove f k [] n h = absurd (cc h)
weighed_remove f k (e ∷ es) n h = taken f (is_at (nat_cmp k) e.0) k e es (remove_entry (is_at (nat_cmp k)) es) n (lookup (is_at (nat_cmp k)) es) (found k e.0) h (weighed_remove f k es n)

less_taken : (c : Bool) (e : ℕ × ℤ) (es rs : List (ℕ × ℤ)) → above_numbers rs ≤ above_numbers es → above_numbers (cond c es (e ∷ rs)) ≤ above_numbers (e ∷ es)
less_taken true e es rs h = omega arith
less_taken false e es rs h = omega arith

pub top_remove : (k : ℕ) (es : List (ℕ × ℤ)) → above_numbers (remove_entry (is_at (nat_cmp k)) es) ≤ above_numbers es
top_remove k [] = omega arith
top_remove k (e ∷ es) = less_taken (is_at (nat_cmp k) e.0) e es (remove_entry (is_at (nat_cmp k)) es) (top_remove k es)

module _ (z : Ints) (s : List Tree) where
  terms_taken : (c : Bool) (e : ℕ × ℤ) (es rs : List (ℕ × ℤ)) → HaveTerms z s (e ∷ es) → HaveTerms z s rs → HaveTerms z s (cond c es (e ∷ rs))
  terms_taken true e es rs h k = h.1
  terms_taken false e es rs h k = (h.0, k)

  pub terms_remove : (k : ℕ) (es : List (ℕ × ℤ)) → HaveTerms z s es → HaveTerms z s (remove_entry (is_at (nat_cmp k)) es)
  terms_remove k [] h = tt
  terms_remove k (e ∷ es) h = terms_taken (is_at (nat_cmp k) e.0) e es (remove_entry (is_at (nat_cmp k)) es) h (terms_remove k es h.1)

  terms_given : (o : Ordering) (k : ℕ) (n : ℤ) (e : ℕ × ℤ) (es rs : List (ℕ × ℤ)) → IsTerm z s k → HaveTerms z s (e ∷ es) → o ≡ nat_cmp k e.0 → HaveTerms z s rs
      → HaveTerms z s (match_ordering o ((k, n) ∷ e ∷ es) ((e.0, n) ∷ es) (e ∷ rs))
  terms_given Less k n e es rs t h o g = (t, h)
  terms_given Equal k n e es rs t h o g = h
  terms_given Greater k n e es rs t h o g = (h.0, g)

  pub terms_insert : (k : ℕ) (n : ℤ) (es : List (ℕ × ℤ)) → IsTerm z s k → HaveTerms z s es → HaveTerms z s (insert_entry nat_cmp es k n)
  terms_insert k n [] t h = (t, tt)
  terms_insert k n (e ∷ es) t h = terms_given (nat_cmp k e.0) k n e es (insert_entry nat_cmp es k n) t h refl (terms_insert k n es t h.1)

  pub terms_last : (es : List (ℕ × ℤ)) (e : ℕ × ℤ) → HaveTerms z s (es ++ e ∷ []) → HaveTerms z s es × IsTerm z s e.0
  terms_last [] e h = (tt, h.0)
  terms_last (x ∷ es) e h = let r = terms_last es e h.1 in ((h.0, r.0), r.1)

-- a multiple put
given : (f : ℕ → ℤ) (o : Ordering) (k : ℕ) (n : ℤ) (e : ℕ × ℤ) (es rs : List (ℕ × ℤ)) (p : Option ℤ) → cond (is_eq o) (Some e.1) p ≡ None
    → (p ≡ None → weighed f rs ≡ weighed f es +ℤ n *ℤ f k) → weighed f (match_ordering o ((k, n) ∷ e ∷ es) ((e.0, n) ∷ es) (e ∷ rs)) ≡ weighed f (e ∷ es) +ℤ n *ℤ f k
given f Less k n e es rs p h g = omega (arith, ints)
given f Equal k n e es rs p h g = absurd (cc h)
given f Greater k n e es rs p h g = let r = g h in omega (arith, ints)

pub weighed_insert : (f : ℕ → ℤ) (k : ℕ) (n : ℤ) (es : List (ℕ × ℤ)) → lookup (is_at (nat_cmp k)) es ≡ None → weighed f (insert_entry nat_cmp es k n) ≡ weighed f es +ℤ n *ℤ f k
weighed_insert f k n [] h = omega (arith, ints)
weighed_insert f k n (e ∷ es) h = given f (nat_cmp k e.0) k n e es (insert_entry nat_cmp es k n) (lookup (is_at (nat_cmp k)) es) h (weighed_insert f k n es)

less_given : (o : Ordering) (b k : ℕ) (n : ℤ) (e : ℕ × ℤ) (es rs : List (ℕ × ℤ)) → k < b → above_numbers (e ∷ es) ≤ b → above_numbers rs ≤ b → above_numbers (match_ordering o ((k, n) ∷ e ∷ es) ((e.0, n) ∷ es) (e ∷ rs)) ≤ b
less_given Less b k n e es rs l h g = omega arith
less_given Equal b k n e es rs l h g = h
less_given Greater b k n e es rs l h g = omega arith

pub top_insert : (b k : ℕ) (n : ℤ) (es : List (ℕ × ℤ)) → k < b → above_numbers es ≤ b → above_numbers (insert_entry nat_cmp es k n) ≤ b
top_insert b k n [] l h = omega arith
top_insert b k n (e ∷ es) l h = less_given (nat_cmp k e.0) b k n e es (insert_entry nat_cmp es k n) l h (top_insert b k n es l (omega arith))

-- the last multiple
pub weighed_last : (f : ℕ → ℤ) (es : List (ℕ × ℤ)) (e : ℕ × ℤ) → weighed f (es ++ e ∷ []) ≡ weighed f es +ℤ e.1 *ℤ f e.0
weighed_last f [] e = omega (arith, ints)
weighed_last f (x ∷ es) e = let r = weighed_last f es e in omega (arith, ints)

pub top_last : (es : List (ℕ × ℤ)) (e : ℕ × ℤ) → e.0 + 1 ≤ above_numbers (es ++ e ∷ [])
top_last [] e = omega arith
top_last (x ∷ es) e = let r = top_last es e in omega arith

-- numbers that are all below another
pub below_top : (k : ℕ) (es : List (ℕ × ℤ)) → ((i d : ℕ) → i < length (keys_of es) → nat_cmp (get_or (keys_of es) i d) k ≡ Less) → above_numbers es ≤ k
below_top k [] h = omega arith
below_top k (e ∷ es) h = let l = ranked e.0 k Less (sym (h 0 0 (omega arith))) in let r = below_top k es (λ i d b. h (suc i) d (omega (arith, b))) in omega arith
