-- A step in code, symbol by symbol.
use Rattle.grammar.proofs.Common.{◌≡◌, ℕ, Bool, true, false, cond, List, [], ◌∷◌, ◌++◌, reverse, Option, Some, None, refl, sym, ap, ◌∙◌, subst, ◌+◌, ◌<◌, length, take, get_or, arith, reverse-append, length-reverse, length-append, take_more, Terminal, Symbol, optional, takes, is_seal, sealed, on_top, step, next_stack, run, IsPut, IsStep}
use Rattle.grammar.proofs.Laws.{run_append}

pub popped : (xs ys : List Symbol) (s : Symbol) → xs ≡ ys ++ s ∷ [] → reverse xs ≡ s ∷ reverse ys
popped xs ys s h = ap reverse h ∙ reverse-append ys (s ∷ [])

opened : (b : Bool) (s : Symbol) (k : List Symbol) (x : Terminal) (v : Bool) → sealed b s ≡ v → step b (s ∷ k) x ≡ cond v (step true k x) (on_top (takes s x) (optional s) k (step (is_seal s) k x))
opened b s k x v h = ap (λ w. cond w (step true k x) (on_top (takes s x) (optional s) k (step (is_seal s) k x))) h

module _ (b : Bool) (s : Symbol) (k l : List Symbol) (x : Terminal) where
  pub put_step : sealed b s ≡ false → IsPut (takes s x) true k l → IsStep (step b (s ∷ k) x) true l
  put_step h p = subst (λ t. IsStep t true l) (sym (opened b s k x false h)) (by_option (takes s x) p)
    where
      by_option : (t : Option (List Symbol)) → IsPut t true k l → IsStep (on_top t (optional s) k (step (is_seal s) k x)) true l
      by_option (Some ss) q = q
      by_option None q = cc

  pub stuck_step : sealed b s ≡ false → IsPut (takes s x) false k l → optional s ≡ false → IsStep (step b (s ∷ k) x) false l
  stuck_step h p o = subst (λ t. IsStep t false l) (sym (opened b s k x false h ∙ ap (λ v. on_top (takes s x) v k (step (is_seal s) k x)) o)) (by_option (takes s x) p)
    where
      by_option : (t : Option (List Symbol)) → IsPut t false k l → IsStep (on_top t false k (step (is_seal s) k x)) false l
      by_option (Some ss) q = cc
      by_option None q = refl

  pub passed_step : sealed b s ≡ false → IsPut (takes s x) false k l → optional s ≡ true → step b (s ∷ k) x ≡ step (is_seal s) l x
  passed_step h p o = opened b s k x false h ∙ ap (λ v. on_top (takes s x) v k (step (is_seal s) k x)) o ∙ by_option (takes s x) p
    where
      by_option : (t : Option (List Symbol)) → IsPut t false k l → on_top t true k (step (is_seal s) k x) ≡ step (is_seal s) l x
      by_option (Some ss) q = cc
      by_option None q = ap (λ v. step (is_seal s) v x) (sym q.1)

pub kept : (t : Option (List Symbol)) (k l : List Symbol) → IsPut t false k l → l ≡ k
kept (Some ss) k l p = cc
kept None k l p = p.1

pub shorter : (xs ys zs : List Symbol) (s : Symbol) → xs ≡ ys ++ s ∷ [] → reverse zs ≡ reverse ys → length zs < length xs
shorter xs ys zs s h e = let a : length zs ≡ length ys = sym (length-reverse zs) ∙ ap length e ∙ length-reverse ys in
    let b : length xs ≡ length (ys ++ s ∷ []) = ap length h in
    let d : length (ys ++ s ∷ []) ≡ length ys + 1 = length-append ys (s ∷ []) in omega arith

pub next_some : (o : Option (List Symbol)) → next_stack (λ l. Some l) o ≡ o
next_some (Some l) = refl
next_some None = refl

-- one more token
pub after : (xs : List Terminal) (i : ℕ) (d : Terminal) (k j : List Symbol) → i < length xs → run k (take i xs) ≡ Some j → run k (take (i + 1) xs) ≡ step false j (get_or xs i d)
after xs i d k j h e = ap (run k) (take_more xs i d h) ∙ run_append (take i xs) (get_or xs i d ∷ []) k ∙ ap (next_stack (λ l. run l (get_or xs i d ∷ []))) e ∙ next_some (step false j (get_or xs i d))

pub stepped : (t : Option (List Symbol)) (l : List Symbol) → IsStep t true l → t ≡ Some l
stepped (Some k) l p = ap Some (sym p.1)
stepped None l p = cc

pub not_stepped : (t : Option (List Symbol)) (l : List Symbol) → IsStep t false l → t ≡ None
not_stepped (Some k) l p = cc
not_stepped None l p = refl
