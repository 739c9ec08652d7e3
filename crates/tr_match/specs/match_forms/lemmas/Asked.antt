-- The test of a pattern and the terms for its variables, asked of an open term: their typing
-- without the bound on indices, by those asked of a variable, with the term put in for it.
use Rattle.std.proofs.Common.{◌≡◌, ℕ, zero, suc, ◌+◌, ◌-◌, ◌<◌, inl, inr, Bool, true, false, if◌then◌else◌, nat_lt, IsSomeAnd, List, [], ◌∷◌, ◌++◌, map, length, get_or, slice_get, Option, Some, None, subst, refl, sym, ap, ◌∙◌, arith}
use Rattle.trees.specs.declared.Sort.TheVariants.{Kind, Term, Formula, Pattern}
use Rattle.trees.specs.Tree.{Tree, Leaf, One, Two, Three, Head, HTyVar, HBound, HParam, HTrue, HIf, HLet, head_of, binders_over}
use Rattle.trees.specs.Binding.{change, leaf_by, one_by, Bound, shifting, inst_many, AreNoPatterns}
use Rattle.trees.specs.Sorts.{WellSorted, sort_of, type_of, int_type, IsExpression}
use Rattle.trees.proofs.Many.{many_at, mapped_at, length_map}
use Rattle.trees.specs.laws.Sorts.{term_no_vars}
use Rattle.tasks.specs.declared.signature.SymbolKind.TheVariants as kinds
use Rattle.tasks.specs.Task.{TaskTree, SymbolTree}
use Rattle.tasks.specs.Vocabulary.{Vocabulary, of_task}
use Rattle.tasks.specs.Typing.{TypedUnder, option_list, bound_types, pattern_types}
use Rattle.tasks.specs.MatchTests.{test, bind}
use Rattle.tasks.specs.Valid.{IsValid}
use Rattle.tasks.proofs.Closing.{typed_sorted}
use Rattle.tasks.proofs.typed_trees.instances.Typed.{present, kind_typed}
use Rattle.images.specs.Images.{image, IsOtherHead}
use Rattle.images.specs.Templates.{IsClosedType}
use Rattle.images.specs.PatternTerms.{IsTypedPattern, IsTypedMatch, HasPartsOf}
use Rattle.images.proofs.Templates.{type_is_kind}
use Rattle.images.proofs.Patterns.{test_at, bind_at}
use Rattle.images.proofs.PatternLaws.{matches_typed, matches_parts}
use Rattle.images.specs.typing_laws.HasTyping.{HasTyping, AreTermsFor, KeepsTyping, IsTypedRule}
use Rattle.images.proofs.typing_laws.Sorted.{typed_has, has_sorts, bound_count}
use Rattle.images.proofs.typing_laws.Changes.{many_has, many_sort, many_type}
use Rattle.images.proofs.TypedImages.{image_patterns}

-- ---- a pattern has no bound variables: it is its image under a rule that changes each of them
abbrev doubled : Tree → Tree
doubled (One (HBound i) a) = Three HIf (Leaf HTrue) (Bound i a) (Bound i a)
doubled e = e

doubled_keeps : (v : Vocabulary) (types : List Tree) (e : Tree) → IsExpression (sort_of e)
    → HasTyping v types e → KeepsTyping v types e (doubled e)
doubled_keeps v types (One (HBound i) a) s x = record {
  typed = ((refl, inl refl, refl), refl, (tt, tt), x, x);
  sort = refl;
  type = refl;
  variables = λ n h. (tt, h, h);
  above = λ m h. omega (arith, h);
  parameters = λ ps h. (tt, h, h);
}
doubled_keeps v types e s x =
    record {
      typed = x;
      sort = refl;
      type = refl;
      variables = λ n h. h;
      above =
          λ m h. h;
      parameters = λ ps h. h;
    }

doubled_others : (e : Tree) → IsOtherHead (head_of e) → doubled e ≡ e
doubled_others (One (HBound i) a) h = absurd h
doubled_others e h = refl

doubled_rule : (v : Vocabulary) → IsTypedRule v doubled
doubled_rule v = record { others = doubled_others; keeps = doubled_keeps v }

-- so it is typed under any binders
same_anywhere : (v : Vocabulary) (types more : List Tree) (e : Tree) → HasTyping v types e
    → image doubled e ≡ e → TypedUnder v more e
same_anywhere v types more (Leaf h) x q = x
same_anywhere v types more (One (HBound i) a) x q = absurd (cc)
same_anywhere v types more (One h a) x q = (x.0, x.1, same_anywhere v types more a x.2 (cc))
same_anywhere v types more (Two h a b) x q = (
  x.0,
  x.1,
  same_anywhere v types more a x.2 (cc),
  same_anywhere v (bound_types h a ++ types)
      (bound_types h a ++ more) b x.3 (cc),
)
same_anywhere v types more (Three h a b c) x q = (
  x.0,
  x.1,
  same_anywhere v types more a x.2 (cc),
  same_anywhere v types more b x.3 (cc),
  same_anywhere v types more c x.4 (cc),
)

pub pattern_anywhere : (v : Vocabulary) (types more : List Tree) (p : Tree) → HasTyping v types p
    → sort_of p ≡ Pattern → TypedUnder v more p
pattern_anywhere v types more p x k =
    same_anywhere v types more p x (image_patterns v doubled (doubled_rule v) types p x (inl k))

-- ---- a term put in for a variable
unshifted : (b : Bool) (i : ℕ) (a : Tree) → Bound (if b then i else i + 0) a ≡ Bound i a
unshifted true i a = refl
unshifted false i a = ap (λ (n : ℕ). Bound n a) (omega arith)

one_unshifted : (d : ℕ) (h : Head) (x a : Tree) → x ≡ a → one_by (shifting 0 0) d h x ≡ One h a
one_unshifted d (HBound i) x a q = unshifted (nat_lt i (0 + d)) i x ∙ ap (Bound i) q
one_unshifted d (HParam n) x a q = ap (One (HParam n)) q
one_unshifted d h x a q = ap (One h) q

leaf_unshifted : (h : Head) → leaf_by (shifting 0 0) h ≡ Leaf h
leaf_unshifted (HTyVar j) = refl
leaf_unshifted _ = refl

shift_none : (d : ℕ) (e : Tree) → change (shifting 0 0) d e ≡ e
shift_none d (Leaf h) = leaf_unshifted h
shift_none d (One h a) = one_unshifted d h (change (shifting 0 0) d a) a (shift_none d a)
shift_none d (Two h a b) = cc (shift_none d a, shift_none (d + binders_over h a) b)
shift_none d (Three h a b c) = cc (shift_none d a, shift_none d b, shift_none d c)

variable_at : (ty s : Tree) → inst_many (Bound 0 ty) (s ∷ []) ≡ s
variable_at ty s =
    many_at (s ∷ []) 0 0 0 (inst_many ty (s ∷ [])) (omega arith) (omega arith) ∙ shift_none 0 s

-- ---- a term has a type
pub term_type : (v : Vocabulary) (types : List Tree) (s : Tree) → sort_of s ≡ Term
    → HasTyping v types s → (ty : Tree) × (type_of s ≡ Some ty)
term_type v types s k x = by (type_of s) refl
  where
    by : (o : Option Tree) → type_of s ≡ o → (ty : Tree) × (type_of s ≡ Some ty)
    by (Some ty) q = (ty, q)
    by None q =
        let n = bound_count HLet s (Leaf HTrue) ((k, inr refl), tt) (has_sorts v types s x) in
        let m = ap (λ (o : Option Tree). length (option_list o)) q in
        absurd (omega (arith, n, m))

-- ---- what is asked of a term
pub record IsAsked (t : TaskTree) (types : List Tree) (p s : Tree) : Type 0 where
  pub pattern : IsTypedPattern t types p
  pub sort : sort_of (test t p s) ≡ Formula
  pub formula : HasTyping (of_task t) types (test t p s)
  pub terms : AreTermsFor (of_task t) types (pattern_types p) (bind t p s)
  pub parts : HasPartsOf t p s

module _ (t : TaskTree) (valid : IsValid t) (types : List Tree) (p s : Tree)
    (kp : sort_of p ≡ Pattern) (xp : HasTyping (of_task t) types p) (ks : sort_of s ≡ Term)
    (xs : HasTyping (of_task t) types s) (q : type_of p ≡ type_of s) where
  v : Vocabulary
  v = of_task t

  has : (ty : Tree) × (type_of s ≡ Some ty)
  has = term_type (of_task t) types s ks xs

  abbrev ty : Tree
  ty = has.0

  -- `int` is a type of the task
  int : IsClosedType (of_task t) int_type
  int = (
    refl,
    (
      (refl, inl refl),
      (
        refl,
        subst (λ (o : Option SymbolTree).
            IsSomeAnd o (λ e. (e.kind ≡ kinds.Kind) × (0 ≡ e.vars))) (sym valid.int) (refl, refl),
      ),
      (tt, tt),
    ),
  )

  closed : IsClosedType (of_task t) ty
  closed = type_is_kind (of_task t) int types p ty
      (pattern_anywhere (of_task t) types types p xp kp) (q ∙ has.1)

  variable_typed : TypedUnder (of_task t) (ty ∷ types) (Bound 0 ty)
  variable_typed =
      ((closed.0, omega arith), refl, kind_typed (of_task t) [] (ty ∷ types) ty closed.0 closed.1)

  under : TypedUnder (of_task t) (ty ∷ types) p
  under = pattern_anywhere (of_task t) types (ty ∷ types) p xp kp

  asked : IsTypedMatch t (ty ∷ types) p (Bound 0 ty)
  asked = matches_typed t valid (ty ∷ types) p (Bound 0 ty) (record { sort = kp; typed = under })
      refl variable_typed (sym (q ∙ has.1))

  put : AreTermsFor (of_task t) types (ty ∷ []) (s ∷ [])
  put = record { as_many = refl; each = λ i k a e g n. each i k a e g n }
    where
      each : (i k : ℕ) (a e : Tree) → slice_get (ty ∷ []) i ≡ Some a → i + k + 1 ≡ length (s ∷ [])
          → (sort_of (get_or (s ∷ []) k e) ≡ Term)
          × ((type_of (get_or (s ∷ []) k e) ≡ Some a)
          × HasTyping (of_task t) types (get_or (s ∷ []) k e))
      each zero zero a e g n = (ks, (has.1 ∙ g, xs))
      each zero (suc k) a e g n = absurd (omega (arith, n))
      each (suc i) k a e g n = absurd (omega (arith, n))

  sorted : WellSorted p
  sorted = typed_sorted (of_task t) (ty ∷ types) p under

  test_is : test t p s ≡ inst_many (test t p (Bound 0 ty)) (s ∷ [])
  test_is = ap (test t p) (sym (variable_at ty s)) ∙ sym (test_at t (s ∷ []) p (Bound 0 ty) sorted)

  terms_are : bind t p s ≡ map (λ e. inst_many e (s ∷ [])) (bind t p (Bound 0 ty))
  terms_are =
      ap (bind t p) (sym (variable_at ty s)) ∙ sym (bind_at t (s ∷ []) p (Bound 0 ty) sorted)

  abbrev open_terms : List Tree
  open_terms = bind t p (Bound 0 ty)

  abbrev at : Tree → Tree
  at e = inst_many e (s ∷ [])

  terms_for : AreTermsFor (of_task t) types (pattern_types p) (map at open_terms)
  terms_for = record {
    as_many = length_map at open_terms ∙ asked.terms.as_many;
    each = λ i k a e g n.
        let m : i + k + 1 ≡ length open_terms = omega (arith, n, length_map at open_terms) in
        let w = asked.terms.each i k a e g m in
        let x : HasTyping (of_task t) (ty ∷ types) (get_or open_terms k e) =
        typed_has (of_task t) (ty ∷ types) (get_or open_terms k e) w.1.1 in
        subst (λ (z : Tree). (sort_of z ≡ Term)
        × ((type_of z ≡ Some a) × HasTyping (of_task t) types z))
        (sym (mapped_at at open_terms k e e (omega (arith, m)))) (
          many_sort (of_task t) types (ty ∷ []) (s ∷ []) put (get_or open_terms k e) x ∙ w.0,
          (
            many_type (of_task t) types (ty ∷ []) (s ∷ []) put (get_or open_terms k e) x
                ∙ w.1.0,
            many_has (of_task t) types (ty ∷ []) (s ∷ []) put (get_or open_terms k e) x,
          ),
        );
  }

  pub is_asked : IsAsked t types p s
  is_asked =
      let y : HasTyping (of_task t) (ty ∷ types) (test t p (Bound 0 ty)) =
      typed_has (of_task t) (ty ∷ types) (test t p (Bound 0 ty)) asked.formula in
      let w : IsTypedPattern t types p =
      record { sort = kp; typed = pattern_anywhere (of_task t) types types p xp kp } in
      record {
        pattern = w;
        sort = ap sort_of test_is
            ∙ many_sort (of_task t) types (ty ∷ []) (s ∷ []) put (test t p (Bound 0 ty)) y
            ∙ asked.sort;
        formula = subst (HasTyping (of_task t) types) (sym test_is)
            (many_has (of_task t) types (ty ∷ []) (s ∷ []) put (test t p (Bound 0 ty)) y);
        terms = subst (AreTermsFor (of_task t) types (pattern_types p)) (sym terms_are) terms_for;
        parts = matches_parts t valid types p s w;
      }

-- ---- terms for variables are no patterns
pub terms_no_patterns : (v : Vocabulary) (types tys ts : List Tree) → AreTermsFor v types tys ts
    → AreNoPatterns ts
terms_no_patterns v types tys ts o = by ts (λ k e l.
    let p = present tys (length ts - 1 - k) (omega (arith, l, o.as_many)) in
    (o.each (length ts - 1 - k) k p.0 e p.1 (omega (arith, l))).0)
  where
    by : (us : List Tree) → ((k : ℕ) (e : Tree) → k < length us → sort_of (get_or us k e) ≡ Term)
        → AreNoPatterns us
    by [] f = tt
    by (u ∷ us) f =
        (term_no_vars u (f 0 u (omega arith)), by us (λ k e l. f (suc k) e (omega (arith, l))))
