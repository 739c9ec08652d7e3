-- A walk over a list: what is done so far, and what the rest leaves to say.
use Rattle.std.proofs.Common.{◌≡◌, ℕ, zero, suc, ◌<◌, ◌≤◌, ◌+◌, List, [], ◌∷◌, map, length, get_or, drop, refl, sym, ap, subst, ◌∙◌, inl, inr, arith, add-one}
use Rattle.std.proofs.lemmas.List.{drop_all}
use Rattle.theory_states.specs.declared.fault.SourceFault.{SourceFault}
use Rattle.theory_states.specs.States.{StateTree}
use Rattle.theories.specs.Typing.{Steps, FirstFault}

pub record WalkList {X : Type 0} (R : X → StateTree → StateTree → Type 0) (F : X → StateTree → SourceFault → Type 0) (c0 c : StateTree) (rest all : List X) : Type 0 where
  pub ok : (c' : StateTree) → Steps R rest c c' → Steps R all c0 c'
  pub err : (f : SourceFault) → FirstFault R F rest c f → FirstFault R F all c0 f

drop_next : {X : Type 0} (xs : List X) (i : ℕ) (d : X) → i < length xs → drop i xs ≡ get_or xs i d ∷ drop (suc i) xs
drop_next [] i d h = absurd (omega arith)
drop_next (x ∷ xs) zero d h = refl
drop_next (x ∷ xs) (suc i) d h = drop_next xs i d (omega arith)

module _ {X : Type 0} (R : X → StateTree → StateTree → Type 0) (F : X → StateTree → SourceFault → Type 0) where
  pub list_begins : (c : StateTree) (xs : List X) → WalkList R F c c xs xs
  list_begins c xs = record { ok = λ c' h. h; err = λ f h. h }

  module _ (c0 c : StateTree) (xs : List X) (i : ℕ) (x : X) (l : i < length xs) (q : x ≡ get_or xs i x) (w : WalkList R F c0 c (drop i xs) xs) where
    split : drop i xs ≡ x ∷ drop (i + 1) xs
    split = drop_next xs i x l ∙ ap (λ (n : ℕ). get_or xs i x ∷ drop n xs) (sym (add-one i)) ∙ ap (λ (y : X). y ∷ drop (i + 1) xs) (sym q)

    -- the next step is made
    pub list_next : (c' : StateTree) → R x c c' → WalkList R F c0 c' (drop (i + 1) xs) xs
    list_next c' h = record {
      ok = λ z k. w.ok z (subst (λ (r : List X). Steps R r c z) (sym split) (record { between = c'; first = h; second = k }));
      err = λ f k. w.err f (subst (λ (r : List X). FirstFault R F r c f) (sym split) (inr (record { between = c'; first = h; fault = k })));
    }

    -- or is at fault
    pub list_fails : (f : SourceFault) → F x c f → FirstFault R F xs c0 f
    list_fails f h = w.err f (subst (λ (r : List X). FirstFault R F r c f) (sym split) (inl h))

  pub list_ends : (c0 c : StateTree) (xs : List X) (i : ℕ) → length xs ≤ i → WalkList R F c0 c (drop i xs) xs → Steps R xs c0 c
  list_ends c0 c xs i h w = w.ok c (subst (λ (ys : List X). Steps R ys c c) (sym (drop_all i xs h)) refl)

-- steps for what a list stands for
module _ {A X : Type 0} (g : A → X) (R : X → StateTree → StateTree → Type 0) (F : X → StateTree → SourceFault → Type 0) where
  pub steps_map : (xs : List A) (c c' : StateTree) → Steps (λ (a : A). R (g a)) xs c c' → Steps R (map g xs) c c'
  steps_map [] c c' h = h
  steps_map (x ∷ xs) c c' h = record { between = h.between; first = h.first; second = steps_map xs h.between c' h.second }

  pub fault_map : (xs : List A) (c : StateTree) (f : SourceFault) → FirstFault (λ (a : A). R (g a)) (λ (a : A). F (g a)) xs c f → FirstFault R F (map g xs) c f
  fault_map [] c f h = h
  fault_map (x ∷ xs) c f h = elim h [ inl k ↦ inl k | inr k ↦ inr (record { between = k.between; first = k.first; fault = fault_map xs k.between f k.fault }) ]
