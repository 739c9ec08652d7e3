-- What a tail takes.
use Rattle.grammar.proofs.Common.{◌≡◌, ℕ, Bool, true, false, ◌&&◌, nat_le, cond, List, [], ◌∷◌, Some, None, refl, sym, ap, ◌∙◌, subst, Terminal, terminal_number, same, operators, prec, need, right, is_infix, production, tail_of, find_production, takes, tail_takes}
use Rattle.tokens_why.specs.declared.terminal.Terminal.TheVariants as t
use Rattle.grammar.specs.declared.symbols.Symbol.TheVariants as s
use Rattle.grammar.proofs.Laws.{same_true, same_refl, no_false}

abbrev takes_op : ℕ → ℕ → Terminal → Bool
takes_op m u o = nat_le m (prec o) && nat_le (need o) u

-- which operators a tail takes
abbrev pub all_infix : List Terminal → Bool
all_infix [] = true
all_infix (o ∷ os) = is_infix o && all_infix os

abbrev pub among : Terminal → List Terminal → Bool
among y [] = false
among y (o ∷ os) = cond (same o y) true (among y os)

pub infix_among : (o : Terminal) → is_infix o ≡ true → among o operators ≡ true
infix_among t.Arrow h = refl
infix_among _ h = cc

tail_none : (m u : ℕ) (os : List Terminal) (y : Terminal) → all_infix os ≡ true → (is_infix y ≡ true → takes_op m u y ≡ false) → find_production (tail_of m u os) y ≡ None
tail_none m u [] y a h = refl
tail_none m u (o ∷ os) y a h = by_infix (is_infix o) refl a (λ e. tail_none m u os y e h)
  where
    by_same : (b : Bool) → same o y ≡ b → takes_op m u o ≡ true → is_infix o ≡ true → find_production (tail_of m u os) y ≡ None → cond b (Some (s.Expr (right o) ∷ s.Tail m (prec o) ∷ [])) (find_production (tail_of m u os) y) ≡ None
    by_same true e t i n = let z : takes_op m u o ≡ false = subst (λ v. takes_op m u v ≡ false) (sym (same_true o y e)) (h (subst (λ v. is_infix v ≡ true) (same_true o y e) i)) in cc
    by_same false e t i n = n

    by_takes : (b : Bool) → takes_op m u o ≡ b → is_infix o ≡ true → find_production (tail_of m u os) y ≡ None → find_production (cond b (production o (s.Expr (right o) ∷ s.Tail m (prec o) ∷ []) ∷ tail_of m u os) (tail_of m u os)) y ≡ None
    by_takes true e i n = by_same (same o y) refl e i n
    by_takes false e i n = n

    by_infix : (b : Bool) → is_infix o ≡ b → (b && all_infix os) ≡ true → (all_infix os ≡ true → find_production (tail_of m u os) y ≡ None) → find_production (tail_of m u (o ∷ os)) y ≡ None
    by_infix true e a f = by_takes (takes_op m u o) refl e (f a)
    by_infix false e a f = absurd (no_false a)

tail_found : (m u : ℕ) (os : List Terminal) (y : Terminal) → among y os ≡ true → takes_op m u y ≡ true → find_production (tail_of m u os) y ≡ Some (s.Expr (right y) ∷ s.Tail m (prec y) ∷ [])
tail_found m u [] y a h = absurd (no_false a)
tail_found m u (o ∷ os) y a h = by_same (same o y) refl a (λ e. tail_found m u os y e h)
  where
    by_takes : (b : Bool) → same o y ≡ false → find_production (tail_of m u os) y ≡ Some (s.Expr (right y) ∷ s.Tail m (prec y) ∷ []) → find_production (cond b (production o (s.Expr (right o) ∷ s.Tail m (prec o) ∷ []) ∷ tail_of m u os) (tail_of m u os)) y ≡ Some (s.Expr (right y) ∷ s.Tail m (prec y) ∷ [])
    by_takes true e f = ap (λ v. cond v (Some (s.Expr (right o) ∷ s.Tail m (prec o) ∷ [])) (find_production (tail_of m u os) y)) e ∙ f
    by_takes false e f = f

    by_same : (b : Bool) → same o y ≡ b → cond b true (among y os) ≡ true → (among y os ≡ true → find_production (tail_of m u os) y ≡ Some (s.Expr (right y) ∷ s.Tail m (prec y) ∷ [])) → find_production (tail_of m u (o ∷ os)) y ≡ Some (s.Expr (right y) ∷ s.Tail m (prec y) ∷ [])
    by_same true e a f = subst (λ v. find_production (tail_of m u (v ∷ os)) y ≡ Some (s.Expr (right y) ∷ s.Tail m (prec y) ∷ [])) (sym (same_true o y e)) (rw h (ap (λ v. cond v (Some (s.Expr (right y) ∷ s.Tail m (prec y) ∷ [])) (find_production (tail_of m u os) y)) (same_refl (terminal_number y))))
    by_same false e a f = by_takes (takes_op m u o) e (f a)

pub tail_takes_is : (m u : ℕ) (x : Terminal) → takes (s.Tail m u) x ≡ tail_takes m u x
tail_takes_is m u x = by_infix (is_infix x) refl
  where
    by_takes : (b : Bool) → takes_op m u x ≡ b → is_infix x ≡ true → takes (s.Tail m u) x ≡ cond b (Some (s.Expr (right x) ∷ s.Tail m (prec x) ∷ [])) None
    by_takes true e i = tail_found m u operators x (infix_among x i) e
    by_takes false e i = tail_none m u operators x refl (λ j. e)

    by_infix : (b : Bool) → is_infix x ≡ b → takes (s.Tail m u) x ≡ cond (b && takes_op m u x) (Some (s.Expr (right x) ∷ s.Tail m (prec x) ∷ [])) None
    by_infix true e = by_takes (takes_op m u x) refl e
    by_infix false e = tail_none m u operators x refl (λ j. absurd (no_false (sym e ∙ j)))
