-- The longest token string, and what nothing completes.
use Rattle.grammar.proofs.Common.{◌≡◌, ℕ, zero, suc, ◌+◌, ◌<◌, ◌≤◌, ◌⊎◌, inl, inr, Bool, true, false, ◌&&◌, cond, List, [], ◌∷◌, ◌++◌, length, take, drop, reverse, get_or, Option, Some, None, refl, sym, ap, ◌∙◌, subst, arith, add-one, drop-cons, reverse-append, take_all, Terminal, Symbol, optional, step, next_stack, run, may_end, ends, accepts, is_safe, is_taken, complete, IsStep, IsLongest, Completes, TakesAll}
use Rattle.grammar.proofs.Laws.{accepted_begins, begun_completes, run_append}
use Rattle.grammar.proofs.Steps.{next_some}

-- a stack's end, from the bottom up
last_true : (ys : List Symbol) (x : Symbol) → optional x ≡ true → may_end (ys ++ x ∷ []) ≡ may_end ys
last_true [] x h = rw h refl
last_true (y ∷ ys) x h = ap (λ v. optional y && v) (last_true ys x h)

and_false : (b : Bool) → (b && false) ≡ false
and_false true = refl
and_false false = refl

last_false : (ys : List Symbol) (x : Symbol) → optional x ≡ false → may_end (ys ++ x ∷ []) ≡ false
last_false [] x h = rw h refl
last_false (y ∷ ys) x h = ap (λ v. optional y && v) (last_false ys x h) ∙ and_false (optional y)

one_on : (xs : List Symbol) (i : ℕ) (d : Symbol) → i < length xs → reverse (drop i xs) ≡ reverse (drop (i + 1) xs) ++ get_or xs i d ∷ []
one_on xs i d h = ap reverse (first xs i d h) ∙ reverse-append (get_or xs i d ∷ []) (drop (i + 1) xs)
  where
    first : (xs : List Symbol) (i : ℕ) (d : Symbol) → i < length xs → drop i xs ≡ get_or xs i d ∷ drop (i + 1) xs
    first xs i d h = rw (add-one, drop-cons xs i d h) refl

pub stop_more : (xs : List Symbol) (i : ℕ) (d : Symbol) → i < length xs → optional (get_or xs i d) ≡ true → may_end (reverse (drop i xs)) ≡ may_end (reverse (drop (i + 1) xs))
stop_more xs i d h o = ap may_end (one_on xs i d h) ∙ last_true (reverse (drop (i + 1) xs)) (get_or xs i d) o

pub stop_not : (xs : List Symbol) (i : ℕ) (d : Symbol) → i < length xs → optional (get_or xs i d) ≡ false → may_end (reverse (drop i xs)) ≡ false
stop_not xs i d h o = ap may_end (one_on xs i d h) ∙ last_false (reverse (drop (i + 1) xs)) (get_or xs i d) o

-- what is stuck stays so
run_none : (n m : ℕ) (xs : List Terminal) (k : List Symbol) → n ≤ m → run k (take n xs) ≡ None → run k (take m xs) ≡ None
run_none zero m xs k h e = cc
run_none (suc n) zero xs k h e = absurd (omega arith)
run_none (suc n) (suc m) [] k h e = cc
run_none (suc n) (suc m) (x ∷ xs) k h e = by_step (step false k x) (λ j. run_none n m xs j (omega arith)) e
  where
    by_step : (o : Option (List Symbol)) → ((j : List Symbol) → run j (take n xs) ≡ None → run j (take m xs) ≡ None) → next_stack (λ j. run j (take n xs)) o ≡ None → next_stack (λ j. run j (take m xs)) o ≡ None
    by_step None f e = refl
    by_step (Some j) f e = f j e

pub longest_more : (k : List Symbol) (xs : List Terminal) (i : ℕ) (r : Option ℕ) (j : List Symbol) → run k (take (i + 1) xs) ≡ Some j → IsLongest k xs i r → IsLongest k xs (i + 1) (cond (may_end j) (Some (i + 1)) r)
longest_more k xs i r j e g = by_end (may_end j) refl r g
  where
    by_place : (m : ℕ) → m ≤ i + 1 → may_end j ≡ false → (m ≤ i → accepts k (take m xs) ≡ false) → accepts k (take m xs) ≡ false
    by_place m l f h = by_or (grind (arith))
      where
        by_or : (m ≤ i) ⊎ (m ≡ i + 1) → accepts k (take m xs) ≡ false
        by_or (inl a) = h a
        by_or (inr a) = subst (λ v. accepts k (take v xs) ≡ false) (sym a) (ap ends e ∙ f)

    by_end : (b : Bool) → may_end j ≡ b → (r : Option ℕ) → IsLongest k xs i r → IsLongest k xs (i + 1) (cond b (Some (i + 1)) r)
    by_end true f r g = (omega arith, ap ends e ∙ f, λ m a l. absurd (omega arith))
    by_end false f None g = λ m l. by_place m l f (λ a. g m a)
    by_end false f (Some b) g = let h : b ≤ i = g.0 in (omega arith, g.1, λ m a l. by_place m l f (λ q. g.2 m a q))

pub longest_stuck : (k : List Symbol) (xs : List Terminal) (i : ℕ) (r : Option ℕ) → i < length xs → run k (take (i + 1) xs) ≡ None → IsLongest k xs i r → IsLongest k xs (length xs) r
longest_stuck k xs i r h e g = by_best r g
  where
    by_place : (m : ℕ) → (m ≤ i → accepts k (take m xs) ≡ false) → accepts k (take m xs) ≡ false
    by_place m f = by_or (grind (arith))
      where
        by_or : (m ≤ i) ⊎ (i + 1 ≤ m) → accepts k (take m xs) ≡ false
        by_or (inl a) = f a
        by_or (inr a) = ap ends (run_none (i + 1) m xs k a e)

    by_best : (r : Option ℕ) → IsLongest k xs i r → IsLongest k xs (length xs) r
    by_best None g = λ m l. by_place m (λ a. g m a)
    by_best (Some b) g = let q : b ≤ i = g.0 in (omega arith, g.1, λ m a l. by_place m (λ q. g.2 m a q))

pub stuck_all : (k : List Symbol) (xs : List Terminal) (i : ℕ) → i < length xs → run k (take (i + 1) xs) ≡ None → run k xs ≡ None
stuck_all k xs i h e = ap (run k) (sym (take_all (length xs) xs (omega arith))) ∙ run_none (i + 1) (length xs) xs k (omega arith) e

-- what isn't taken is completed by nothing, and what is taken is by the stack after it
pub never : (k : List Symbol) (xs : List Terminal) → run k xs ≡ None → Completes k xs None
never k xs h ys = by_accepted (accepts k (xs ++ ys)) refl
  where
    by_accepted : (b : Bool) → accepts k (xs ++ ys) ≡ b → accepts k (xs ++ ys) ≡ false
    by_accepted false f = f
    by_accepted true f = let q = accepted_begins k xs ys f in let z : None ≡ Some q.0 = sym h ∙ q.1 in cc

pub completed : (k j : List Symbol) (xs : List Terminal) (ys : List Terminal) → is_safe k None ≡ true → run k xs ≡ Some j → ys ≡ complete j → Completes k xs (Some ys)
completed k j xs ys s h e = subst (λ v. accepts k (xs ++ v) ≡ true) (sym e) (begun_completes k j xs s h)

-- a fault at a token, or at the end
pub unaccepted : (k j : List Symbol) (xs : List Terminal) (n : ℕ) → TakesAll k xs n → run k (take n xs) ≡ Some j → (n ≡ length xs → may_end j ≡ false) → accepts k xs ≡ false
unaccepted k j xs n t h f = by_place (grind (arith, t.within))
  where
    by_place : (n < length xs) ⊎ (n ≡ length xs) → accepts k xs ≡ false
    by_place (inl l) = ap ends (stuck_all k xs n l (t.stuck l))
    by_place (inr e) = ap ends (ap (run k) (sym (take_all n xs (omega (arith, e)))) ∙ h) ∙ f e

pub step_after : (k j : List Symbol) (xs : List Terminal) (y : Terminal) → run k xs ≡ Some j → run k (xs ++ y ∷ []) ≡ step false j y
step_after k j xs y h = run_append xs (y ∷ []) k ∙ ap (next_stack (λ l. run l (y ∷ []))) h ∙ next_some (step false j y)

pub whether : (t : Option (List Symbol)) (b : Bool) (l : List Symbol) → IsStep t b l → b ≡ is_taken t
whether (Some k) b l p = p.0
whether None b l p = p
