-- What the own declarations of a theory make: no symbol is made at two places.
use Rattle.std.proofs.Common.{◌≡◌, ◌⊎◌, inl, inr, ℕ, ◌<◌, if◌then◌else◌, zero, suc, Bool, true, false, List, [], ◌∷◌, ◌++◌, length, slice_get, Contains, Some, option_to_list, refl, sym, subst, ◌∙◌, arith, append-nil}
use Rattle.std.proofs.lemmas.List.Elements.{All-contains, Contains-append_left, Contains-append_right, Contains-append_cases}
use Rattle.tasks.specs.Task.{SymbolTree, DeclarationTree, made, made_by}
use Rattle.surface.specs.Lexeme.{Word}
use Rattle.elaboration_laws.specs.Tasks.{IsOwnSymbol, AreSound}
use Rattle.elaboration_laws.proofs.Distinct.{IsDistinct, pairs_distinct}
use Rattle.elaboration_laws.proofs.TupleDecls.{made_both}
use Rattle.theory_states.specs.States.{KnownTree, at_places}
use Rattle.elaboration_laws.proofs.Places.{none_here, cases_of, here, in_places}
use Rattle.elaboration_laws.proofs.Vocabularies.{made_below}
use Rattle.elaboration_laws.specs.clones.clone_elements.Left.{Origin, no_declaration, decl_or}
use Rattle.elaboration_laws.specs.clones.clone_elements.Replacements.{PlacedEffects, is_replaced, kept_at, kept_of}
use Rattle.elaboration_laws.specs.clones.clone_copies.Origins.{is_own, own_at, own_among, origin_of}
use Rattle.elaboration_laws.proofs.Joined.{distinct_last as back_distinct, into_made, distinct_apart as apart_from}
use Rattle.std.proofs.lemmas.Option.{slice_get-get_or as some_at}
use Rattle.elaboration_laws.proofs.Numbers.{later}

-- ---- own places
module _ (ds : List DeclarationTree) (path : Word) where
  pub own_in : (ks : List ℕ) (p : ℕ) → Contains (own_among ds path ks) p → Contains ks p × (is_own ds path p ≡ true)
  own_in [] p c = absurd (none_here p c)
  own_in (k ∷ ks) p c = of (is_own ds path k) refl (Contains-append_cases (own_at ds path k) (own_among ds path ks) p c) (λ z. own_in ks p z)
    where
      first : is_own ds path k ≡ true → (k ≡ p) ⊎ Contains [] p → Contains (k ∷ ks) p × (is_own ds path p ≡ true)
      first q (inl e) = ((0, omega arith, e), subst (λ (i : ℕ). is_own ds path i ≡ true) e q)
      first q (inr n) = absurd (none_here p n)

      of : (b : Bool) → is_own ds path k ≡ b → Contains (if b then k ∷ [] else []) p ⊎ Contains (own_among ds path ks) p → (Contains (own_among ds path ks) p → Contains ks p × (is_own ds path p ≡ true)) → Contains (k ∷ ks) p × (is_own ds path p ≡ true)
      of true q (inl z) f = first q (cases_of k p [] z)
      of false q (inl z) f = absurd (none_here p z)
      of b q (inr z) f = let x = f z in (later k p ks x.0, x.1)

  pub own_there : (ks : List ℕ) (p : ℕ) → Contains ks p → is_own ds path p ≡ true → Contains (own_among ds path ks) p
  own_there [] p c o = absurd (none_here p c)
  own_there (k ∷ ks) p c o = of (cases_of k p ks c) (λ z. own_there ks p z o)
    where
      of : (k ≡ p) ⊎ Contains ks p → (Contains ks p → Contains (own_among ds path ks) p) → Contains (own_at ds path k ++ own_among ds path ks) p
      of (inl e) f =
          let q : is_own ds path k ≡ true = subst (λ (i : ℕ). is_own ds path i ≡ true) (sym e) o in
          Contains-append_left (own_at ds path k) (own_among ds path ks) p (subst (λ (b : Bool). Contains (if b then k ∷ [] else []) p) (sym q) (0, omega arith, e))
      of (inr z) f = Contains-append_right (own_at ds path k) (own_among ds path ks) p (f z)

-- ---- symbols that are kept
pub record IsMadeAt (o : Origin) (effects : PlacedEffects) (ks : List ℕ) (k : ℕ) : Type 0 where
  pub place : ℕ
  pub among : Contains ks place
  pub free : is_replaced (effects place) ≡ false
  pub makes : Contains (made_by (decl_or o.decls place).body) k

module _ (o : Origin) (effects : PlacedEffects) where
  pub kept_in : (ks : List ℕ) (k : ℕ) → Contains (kept_of o effects ks) k → IsMadeAt o effects ks k
  kept_in [] k c = absurd (none_here k c)
  kept_in (p ∷ ks) k c = of (is_replaced (effects p)) refl (Contains-append_cases (kept_at o effects p) (kept_of o effects ks) k c) (λ z. kept_in ks k z)
    where
      of : (b : Bool) → is_replaced (effects p) ≡ b → Contains (if b then [] else made_by (decl_or o.decls p).body) k ⊎ Contains (kept_of o effects ks) k → (Contains (kept_of o effects ks) k → IsMadeAt o effects ks k) → IsMadeAt o effects (p ∷ ks) k
      of true q (inl z) f = absurd (none_here k z)
      of false q (inl z) f = record { place = p; among = here p ks; free = q; makes = z }
      of b q (inr z) f = let x = f z in record { place = x.place; among = later p x.place ks x.among; free = x.free; makes = x.makes }

  pub kept_there : (ks : List ℕ) (p k : ℕ) → Contains ks p → is_replaced (effects p) ≡ false → Contains (made_by (decl_or o.decls p).body) k → Contains (kept_of o effects ks) k
  kept_there [] p k c q z = absurd (none_here p c)
  kept_there (j ∷ ks) p k c q z = of (cases_of j p ks c) (λ x. kept_there ks p k x q z)
    where
      of : (j ≡ p) ⊎ Contains ks p → (Contains ks p → Contains (kept_of o effects ks) k) → Contains (kept_at o effects j ++ kept_of o effects ks) k
      of (inl e) f =
          let r : is_replaced (effects j) ≡ false = subst (λ (i : ℕ). is_replaced (effects i) ≡ false) (sym e) q in
          let y : Contains (made_by (decl_or o.decls j).body) k = subst (λ (i : ℕ). Contains (made_by (decl_or o.decls i).body) k) (sym e) z in
          Contains-append_left (kept_at o effects j) (kept_of o effects ks) k (subst (λ (b : Bool). Contains (if b then [] else made_by (decl_or o.decls j).body) k) (sym r) y)
      of (inr x) f = Contains-append_right (kept_at o effects j) (kept_of o effects ks) k (f x)

-- ---- places of symbols

below_made : (ds : List DeclarationTree) (p k : ℕ) → Contains (made_by (decl_or ds p).body) k → p < length ds
below_made [] p k c = absurd (none_here k c)
below_made (d ∷ ds) zero k c = omega arith
below_made (d ∷ ds) (suc p) k c = let l = below_made ds p k c in omega (arith, l)

module _ (ds : List DeclarationTree) where
  pub makes_at : (p k : ℕ) → Contains (made_by (decl_or ds p).body) k → slice_get ds p ≡ Some (decl_or ds p)
  makes_at p k z = some_at ds p no_declaration (below_made ds p k z)

  pub makes_in : (ks : List ℕ) (p k : ℕ) → Contains ks p → Contains (made_by (decl_or ds p).body) k → Contains (at_places ds ks) (decl_or ds p)
  makes_in ks p k c z = in_places ds ks p (decl_or ds p) c (makes_at p k z)

  pub in_made : (ks : List ℕ) (p k : ℕ) → Contains ks p → Contains (made_by (decl_or ds p).body) k → Contains (made (at_places ds ks)) k
  in_made ks p k c z = into_made (at_places ds ks) (decl_or ds p) k (makes_in ks p k c z) z

  pub same_place : (ks : List ℕ) → IsDistinct (made (at_places ds ks)) → (p q k : ℕ) → Contains ks p → Contains ks q → Contains (made_by (decl_or ds p).body) k → Contains (made_by (decl_or ds q).body) k → p ≡ q
  same_place [] d p q k a b x y = absurd (none_here p a)
  same_place (j ∷ ks) d p q k a b x y = of (cases_of j p ks a) (cases_of j q ks b) (λ e f. same_place ks (back_distinct (made one) (made (at_places ds ks)) split) p q k e f x y)
    where
      one : List DeclarationTree
      one = option_to_list (slice_get ds j)

      split : IsDistinct (made one ++ made (at_places ds ks))
      split = subst IsDistinct (made_both one (at_places ds ks)) d

      first : (i : ℕ) → j ≡ i → Contains (made_by (decl_or ds i).body) k → Contains (made one) k
      first i e z = subst (λ (zs : List DeclarationTree). Contains (made zs) k) (append-nil one) (in_made (j ∷ []) i k (0, omega arith, e) z)

      of : (j ≡ p) ⊎ Contains ks p → (j ≡ q) ⊎ Contains ks q → (Contains ks p → Contains ks q → p ≡ q) → p ≡ q
      of (inl e) (inl f) g = sym e ∙ f
      of (inl e) (inr f) g = absurd (apart_from (made one) (made (at_places ds ks)) k split (first p e x) (in_made ks q k f y))
      of (inr e) (inl f) g = absurd (apart_from (made one) (made (at_places ds ks)) k split (first q f y) (in_made ks p k e x))
      of (inr e) (inr f) g = g e f

-- ---- of a theory that is sound
module _ (xs : List SymbolTree) (ds : List DeclarationTree) (t : KnownTree) (sound : AreSound xs (at_places ds t.visible)) where
  abbrev es : List DeclarationTree
  es = at_places ds t.visible

  abbrev MakesAt : ℕ → ℕ → Type 0
  MakesAt p k = Contains (made_by (decl_or ds p).body) k

  pub own_visible : (p : ℕ) → Contains (origin_of ds t).own p → Contains t.visible p
  own_visible p c = (own_in ds t.path t.visible p c).0

  pub one_place : (p q k : ℕ) → Contains t.visible p → Contains t.visible q → MakesAt p k → MakesAt q k → p ≡ q
  one_place p q k a b x y = same_place ds t.visible (pairs_distinct (made es) sound.once) p q k a b x y

  pub makes_own : (p k : ℕ) → Contains t.visible p → MakesAt p k → IsOwnSymbol xs k
  makes_own p k c z = All-contains (IsOwnSymbol xs) (made es) k sound.own (in_made ds t.visible p k c z)

  pub makes_below : (p k : ℕ) → Contains t.visible p → MakesAt p k → k < length xs
  makes_below p k c z = made_below xs es sound k (in_made ds t.visible p k c z)
