-- Open terms of the types of binders, one for each, under other binders.
use Rattle.std.proofs.Common.{◌≡◌, ℕ, ◌+◌, ◌<◌, zero, suc, List, [], ◌∷◌, ◌++◌, length, get_or, slice_get, All, Some, subst, refl, sym, ap, ◌∙◌, arith, append_assoc}
use Rattle.std.proofs.Math.ListN.{get_or-append}
use Rattle.std.proofs.Math.Seq.{get_or-append_seam}
use Rattle.std.proofs.lemmas.List.{length-append, append-nil}
use Rattle.tasks.specs.trees.declared.Sort.TheVariants.{Kind, Term}
use Rattle.tasks.specs.trees.Tree.{Tree, One, HBound}
use Rattle.tasks.specs.trees.Sorts.{sort_of, type_of}
use Rattle.tasks.specs.Vocabulary.{Vocabulary}
use Rattle.tasks.specs.Valid.{VariablesBelow, ParametersOf}
use Rattle.evidence.specs.images.typing_laws.HasTyping.{HasSorts, HasTyping, AreTermsFor}
use Rattle.images.proofs.typing_laws.Sorted.{has_sorts}
use Rattle.inlining.proofs.Bodies.{onto}
use Rattle.inlining.specs.branch_equations.Branches.{variables_above}

-- a type that binders may have, with the type variables below a number
pub record IsBinderType (v : Vocabulary) (vars : ℕ) (ty : Tree) : Type 0 where
  pub sort : sort_of ty ≡ Kind
  pub typed : (bs : List Tree) → HasTyping v bs ty
  pub parameters : ParametersOf [] ty
  pub variables : VariablesBelow vars ty

-- a term of a type under binders, without parameters
pub record IsTermUnder (v : Vocabulary) (vars : ℕ) (bs : List Tree) (ty t : Tree) : Type 0 where
  pub sort : sort_of t ≡ Term
  pub type : type_of t ≡ Some ty
  pub typed : HasTyping v bs t
  pub parameters : ParametersOf [] t
  pub variables : VariablesBelow vars t

-- what binders give, by place
pub onto_at : (types more : List Tree) (i : ℕ) → slice_get (onto types more) (length types + i) ≡ slice_get more i
onto_at [] more i = let e : 0 + i ≡ i = omega arith in ap (slice_get more) e
onto_at (ty ∷ types) more i = let e : length (ty ∷ types) + i ≡ length types + suc i = omega arith in ap (slice_get (onto types (ty ∷ more))) e ∙ onto_at types (ty ∷ more) (suc i)

module _ (v : Vocabulary) (vars : ℕ) where
  -- terms of these types, in the same order
  abbrev pub AreTermsUnder : List Tree → List Tree → List Tree → Type 0
  AreTermsUnder bs [] [] = Unit {0}
  AreTermsUnder bs (ty ∷ tys) (t ∷ ts) = IsTermUnder v vars bs ty t × AreTermsUnder bs tys ts
  AreTermsUnder bs _ _ = ⊥

  pub terms_append : (bs as' cs ts us : List Tree) → AreTermsUnder bs as' ts → AreTermsUnder bs cs us → AreTermsUnder bs (as' ++ cs) (ts ++ us)
  terms_append bs [] cs [] us a c = c
  terms_append bs (ty ∷ as') cs (t ∷ ts) us a c = (a.0, terms_append bs as' cs ts us a.1 c)
  terms_append bs [] cs (t ∷ ts) us a c = absurd a
  terms_append bs (ty ∷ as') cs [] us a c = absurd a

  -- one more, for a binder inside the others
  more_for : (bs tys ts : List Tree) (ty t : Tree) → IsTermUnder v vars bs ty t → AreTermsFor v bs tys ts → AreTermsFor v bs (ty ∷ tys) (ts ++ t ∷ [])
  more_for bs tys ts ty t h o = record {
    as_many = omega (arith, length-append ts (t ∷ []), o.as_many);
    each = each_for;
  }
    where
      last_for : (k : ℕ) (e a : Tree) → Some ty ≡ Some a → k ≡ length ts → (sort_of (get_or (ts ++ t ∷ []) k e) ≡ Term) × ((type_of (get_or (ts ++ t ∷ []) k e) ≡ Some a) × HasTyping v bs (get_or (ts ++ t ∷ []) k e))
      last_for k e a q n =
          let at : get_or (ts ++ t ∷ []) k e ≡ t = ap (λ (j : ℕ). get_or (ts ++ t ∷ []) j e) n ∙ get_or-append_seam ts t [] e in
          (ap sort_of at ∙ h.sort, (ap type_of at ∙ h.type ∙ q, subst (HasTyping v bs) (sym at) h.typed))

      each_for : (i k : ℕ) (a e : Tree) → slice_get (ty ∷ tys) i ≡ Some a → i + k + 1 ≡ length (ts ++ t ∷ []) → (sort_of (get_or (ts ++ t ∷ []) k e) ≡ Term) × ((type_of (get_or (ts ++ t ∷ []) k e) ≡ Some a) × HasTyping v bs (get_or (ts ++ t ∷ []) k e))
      each_for zero k a e q n = last_for k e a q (omega (arith, length-append ts (t ∷ []), n))
      each_for (suc i) k a e q n =
          let l : i + k + 1 ≡ length ts = omega (arith, length-append ts (t ∷ []), n) in
          let at : get_or (ts ++ t ∷ []) k e ≡ get_or ts k e = get_or-append ts (t ∷ []) e k (omega (arith, l)) in
          let w = o.each i k a e q l in
          (ap sort_of at ∙ w.0, (ap type_of at ∙ w.1.0, subst (HasTyping v bs) (sym at) w.1.1))

  -- terms in the order of quantifiers are terms for what these bind
  all_for : (bs tys ts more us : List Tree) → AreTermsUnder bs tys ts → AreTermsFor v bs more us → AreTermsFor v bs (onto tys more) (us ++ ts)
  all_for bs [] [] more us a o = subst (AreTermsFor v bs more) (sym (append-nil us)) o
  all_for bs (ty ∷ tys) (t ∷ ts) more us a o =
      subst (AreTermsFor v bs (onto tys (ty ∷ more))) (append_assoc us (t ∷ []) ts) (all_for bs tys ts (ty ∷ more) (us ++ t ∷ []) a.1 (more_for bs more us ty t a.0 o))
  all_for bs [] (t ∷ ts) more us a o = absurd a
  all_for bs (ty ∷ tys) [] more us a o = absurd a

  none_for : (bs : List Tree) → AreTermsFor v bs [] []
  none_for bs = record { as_many = refl; each = λ i k ty e q n. absurd (omega (arith, n)) }

  pub terms_for : (bs tys ts : List Tree) → AreTermsUnder bs tys ts → AreTermsFor v bs (onto tys []) ts
  terms_for bs tys ts a = all_for bs tys ts [] [] a (none_for bs)

  -- what they have, by place
  pub terms_variables : (bs tys ts : List Tree) → AreTermsUnder bs tys ts → (k : ℕ) (e : Tree) → k < length ts → VariablesBelow vars (get_or ts k e)
  terms_variables bs (ty ∷ tys) (t ∷ ts) a zero e l = a.0.variables
  terms_variables bs (ty ∷ tys) (t ∷ ts) a (suc k) e l = terms_variables bs tys ts a.1 k e (omega (arith, l))
  terms_variables bs [] [] a k e l = absurd (omega (arith, l))
  terms_variables bs [] (t ∷ ts) a k e l = absurd a
  terms_variables bs (ty ∷ tys) [] a k e l = absurd a

  pub terms_parameters : (bs tys ts : List Tree) → AreTermsUnder bs tys ts → (k : ℕ) (e : Tree) → k < length ts → HasSorts (get_or ts k e) × ParametersOf [] (get_or ts k e)
  terms_parameters bs (ty ∷ tys) (t ∷ ts) a zero e l = (has_sorts v bs t a.0.typed, a.0.parameters)
  terms_parameters bs (ty ∷ tys) (t ∷ ts) a (suc k) e l = terms_parameters bs tys ts a.1 k e (omega (arith, l))
  terms_parameters bs [] [] a k e l = absurd (omega (arith, l))
  terms_parameters bs [] (t ∷ ts) a k e l = absurd a
  terms_parameters bs (ty ∷ tys) [] a k e l = absurd a

  -- ---- the variables that quantifiers bind
  variable_term : (bs : List Tree) (i : ℕ) (ty : Tree) → IsBinderType v vars ty → slice_get bs i ≡ Some ty → IsTermUnder v vars bs ty (One (HBound i) ty)
  variable_term bs i ty k q = record { sort = refl; type = refl; typed = ((k.sort, tt), q, k.typed bs); parameters = (tt, k.parameters); variables = k.variables }

  -- those of some of them, where as many binders as these are below
  pub variables_under : (types rest more : List Tree) (n : ℕ) → n ≡ length rest → All (IsBinderType v vars) types → AreTermsUnder (onto (types ++ rest) more) types (variables_above n types)
  variables_under [] rest more n e k = tt
  variables_under (ty ∷ types) rest more n e k =
      let i : length types + n ≡ length (types ++ rest) + 0 = omega (arith, length-append types rest, e) in
      let at : slice_get (onto (types ++ rest) (ty ∷ more)) (length types + n) ≡ Some ty = ap (slice_get (onto (types ++ rest) (ty ∷ more))) i ∙ onto_at (types ++ rest) (ty ∷ more) 0 in
      (variable_term (onto (types ++ rest) (ty ∷ more)) (length types + n) ty (k 0 ty (omega arith)) at, variables_under types rest (ty ∷ more) n e (λ j d l. k (suc j) d (omega (arith, l))))

pub onto_append : (xs ys more : List Tree) → onto (xs ++ ys) more ≡ onto ys (onto xs more)
onto_append [] ys more = refl
onto_append (x ∷ xs) ys more = onto_append xs ys (x ∷ more)
