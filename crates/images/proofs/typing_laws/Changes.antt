-- A change of a tree that puts terms of the right types for its open variables has its typing: shifts, and open terms put in.
use Rattle.std.proofs.Common.{◌≡◌, ℕ, ◌+◌, ◌-◌, ◌<◌, ◌≤◌, ◌⊎◌, inl, inr, List, [], ◌∷◌, ◌++◌, map, length, get_or, slice_get, Option, Some, subst, refl, sym, ap, ◌∙◌, arith, append_assoc}
use Rattle.std.proofs.lemmas.List.{length-append}
use Rattle.std.proofs.lemmas.Bool.{cases_lt}
use Rattle.trees.specs.declared.Sort.TheVariants.{Kind, Term}
use Rattle.trees.specs.Tree.{Tree, Leaf, One, Two, Three, Head, HTyVar, HTyApp, HCell, HBound, HParam, HFun, HPred, HEq, HForall, HExists, HLet, HIf, HCase, HArm, HPatAny, HPatVar, HPatCon, HPatAlias, head_of, binders_over, pat_vars, above_params}
use Rattle.trees.specs.Binding.{Change, change, leaf_by, Bound, Param, TyVar, shifting, shift, instantiating_many, inst_many}
use Rattle.trees.specs.Sorts.{sort_of, yield_type, type_of, top_type, two_type, IsList}
use Rattle.trees.specs.Facts.{PutsSorts}
use Rattle.trees.specs.laws.Sorts.{sort_of-change, one_fits, two_fits, three_fits}
use Rattle.trees.proofs.Types.{AreKinds, three_no_cell}
use Rattle.trees.specs.laws.Indices.{shift_below, shift_above}
use Rattle.trees.specs.binders.Visits.{sorts_shifting}
use Rattle.trees.proofs.Above.{types_left}
use Rattle.trees.proofs.Many.{many_below, many_at, many_above, cases_many}
use Rattle.tasks.specs.Task.{SymbolTree}
use Rattle.tasks.specs.Vocabulary.{Vocabulary}
use Rattle.tasks.specs.Typing.{members, entry, IsTypeSymbol, IsUse, HasResult, option_list, three_pattern, pattern_types, bound_types, BranchesFit, first_body, TwoTyped, ThreeTyped}
use Rattle.tasks.specs.Valid.{VariablesBelow, ParametersOf}
use Rattle.tasks.proofs.typed_trees.instances.Typed.{present}
use Rattle.tasks.proofs.TypeInstances.{some_kept}
use Rattle.images.proofs.Slices.{slice_front, slice_after}
use Rattle.images.proofs.Images.{expression_type, expression_members, expression_branches, expression_variables, branches_alike}
use Rattle.images.proofs.Changes.{variables_varied, above_varied}
use Rattle.images.specs.typing_laws.HasTyping.{HasSorts, HasTyping, AreTermsFor}
use Rattle.images.proofs.typing_laws.Sorted.{has_sorts, kind_has, kinds_only, bound_count, one_is_no_cell}

-- a term that is put in for a variable of this type, below binders of these types
pub record IsPut (v : Vocabulary) (bs : List Tree) (ty t : Tree) : Type 0 where
  pub sort : sort_of t ≡ Term
  pub typed : HasTyping v bs t
  pub type : type_of t ≡ Some ty

-- A change of bound variables alone: what is put for a variable under binders of the types `bs ++ from` is a term of its type under
-- binders of the types `bs ++ to`. Then a tree typed under the one is typed under the other.
abbrev pub varying : (ℕ → ℕ → Tree → Tree) → Change
varying B = record { bound = B; param = λ d n ty. Param n ty; ty_var = λ j. TyVar j }

module _ (v : Vocabulary) (from to : List Tree) (B : ℕ → ℕ → Tree → Tree) (puts : PutsSorts (varying B))
    (put : (bs : List Tree) (d i : ℕ) (a : Tree) → d ≡ length bs → HasTyping v (bs ++ from) (One (HBound i) a) → IsPut v (bs ++ to) a (B d i a)) where
  abbrev ch : Change
  ch = varying B

  abbrev at : ℕ → Tree → Tree
  at d e = change (varying B) d e

  pub sort_at : (d : ℕ) (e : Tree) → sort_of (at d e) ≡ sort_of e
  sort_at d e = sort_of-change (ch) puts d e

  kinds_at : (d : ℕ) (ts : List Tree) (e : Tree) → HasTyping v ts e → AreKinds e → at d e ≡ e
  kinds_at d ts e x k = types_left (ch) (λ _. refl) d e (kinds_only e (has_sorts v ts e x) k)

  leaf_at : (h : Head) → leaf_by (ch) h ≡ Leaf h
  leaf_at (HTyVar j) = refl
  leaf_at _ = refl

  put_at : (bs : List Tree) (d i : ℕ) (a : Tree) → d ≡ length bs → HasTyping v (bs ++ from) (One (HBound i) a) → IsPut v (bs ++ to) a (at d (One (HBound i) a))
  put_at bs d i a n x =
      subst (λ (z : Tree). IsPut v (bs ++ to) a ((ch).bound d i z)) (sym (kinds_at d (bs ++ from) a x.2 (inl x.0.0))) (put bs d i a n x)

  -- what is under the binders of an operator
  deeper : (bs : List Tree) (h : Head) (a b : Tree) → HasTyping v (bs ++ from) (Two h a b) → HasTyping v ((bound_types h a ++ bs) ++ from) b
  deeper bs h a b x = rw (append_assoc (bound_types h a) bs from) x.3

  depth : (bs : List Tree) (d : ℕ) (h : Head) (a b : Tree) → d ≡ length bs → HasTyping v (bs ++ from) (Two h a b) → d + binders_over h a ≡ length (bound_types h a ++ bs)
  depth bs d h a b n x = omega (arith, length-append (bound_types h a) bs, bound_count h a b x.0 (has_sorts v (bs ++ from) a x.2))

  -- types of terms
  type_at : (bs : List Tree) (d : ℕ) (e : Tree) → d ≡ length bs → HasTyping v (bs ++ from) e → (yield_type (at d e) ≡ yield_type e) × (type_of (at d e) ≡ type_of e)
  type_at bs d (Leaf h) n x = (ap yield_type (leaf_at h), ap type_of (leaf_at h))
  type_at bs d (One (HBound i) a) n x = let p = put_at bs d i a n x in (sym (expression_type (at d (One (HBound i) a)) (inl p.sort)) ∙ p.type, p.type)
  type_at bs d (One (HParam m) a) n x = let q : at d a ≡ a = kinds_at d (bs ++ from) a x.2 (inl x.0) in (ap Some q, ap Some q)
  type_at bs d (One HPatAny a) n x = let q : at d a ≡ a = kinds_at d (bs ++ from) a x.2 (inl x.0) in (ap Some q, ap Some q)
  type_at bs d (One HPatVar a) n x = let q : at d a ≡ a = kinds_at d (bs ++ from) a x.2 (inl x.0) in (ap Some q, ap Some q)
  type_at bs d (One HPatAlias a) n x = let q = (type_at bs d a n x.2).0 in (q, q)
  type_at bs d (One _ a) n x = (refl, refl)
  type_at bs d (Two h a b) n x =
      let l = (type_at bs d a n x.2).0 in
      let r = (type_at (bound_types h a ++ bs) (d + binders_over h a) b (depth bs d h a b n x) (deeper bs h a b x)).0 in
      let q : two_type h (yield_type (at d a)) (yield_type (at (d + binders_over h a) b)) ≡ two_type h (yield_type a) (yield_type b) = cc in
      (q, ap (top_type h) q)
  type_at bs d (Three (HFun k) a b c) n x = let q : at d c ≡ c = kinds_at d (bs ++ from) c x.4 (inl x.0.2) in (ap Some q, ap Some q)
  type_at bs d (Three (HPatCon k) a b c) n x = let q : at d c ≡ c = kinds_at d (bs ++ from) c x.4 (inl x.0.2) in (ap Some q, ap Some q)
  type_at bs d (Three HIf a b c) n x = let q = (type_at bs d b n x.3).0 in (q, q)
  type_at bs d (Three _ a b c) n x = absurd x.0

  pub types_at : (bs : List Tree) (d : ℕ) (e : Tree) → d ≡ length bs → HasTyping v (bs ++ from) e → type_of (at d e) ≡ type_of e
  types_at bs d e n x = (type_at bs d e n x).1

  -- variables of patterns
  variables_at : (bs : List Tree) (d : ℕ) (e : Tree) → d ≡ length bs → HasTyping v (bs ++ from) e → pattern_types (at d e) ≡ pattern_types e
  variables_at bs d (Leaf h) n x = ap pattern_types (leaf_at h)
  variables_at bs d (One (HBound i) a) n x = expression_variables (at d (One (HBound i) a)) (inl (put_at bs d i a n x).sort)
  variables_at bs d (One (HParam m) a) n x = refl
  variables_at bs d (One HPatVar a) n x = let q : at d a ≡ a = kinds_at d (bs ++ from) a x.2 (inl x.0) in ap (λ (z : Tree). z ∷ []) q
  variables_at bs d (One HPatAlias a) n x = let q = types_at bs d a n x.2 in let r = variables_at bs d a n x.2 in cc
  variables_at bs d (One _ a) n x = refl
  variables_at bs d (Two h a b) n x =
      let l = variables_at bs d a n x.2 in
      let r = variables_at (bound_types h a ++ bs) (d + binders_over h a) b (depth bs d h a b n x) (deeper bs h a b x) in
      cc
  variables_at bs d (Three h a b c) n x = ap (three_pattern h) (variables_at bs d b n x.3)

  bound_at : (bs : List Tree) (d : ℕ) (h : Head) (a b : Tree) → d ≡ length bs → HasTyping v (bs ++ from) (Two h a b) → bound_types h (at d a) ≡ bound_types h a
  bound_at bs d HForall a b n x = ap (λ (z : Tree). z ∷ []) (kinds_at d (bs ++ from) a x.2 (inl x.0.0.0))
  bound_at bs d HExists a b n x = ap (λ (z : Tree). z ∷ []) (kinds_at d (bs ++ from) a x.2 (inl x.0.0.0))
  bound_at bs d HLet a b n x = ap option_list (types_at bs d a n x.2)
  bound_at bs d HArm a b n x = variables_at bs d a n x.2
  bound_at bs d _ a b n x = refl

  -- types of the members of a list
  members_at : (bs : List Tree) (d : ℕ) (e : Tree) → d ≡ length bs → HasTyping v (bs ++ from) e → map type_of (members (at d e)) ≡ map type_of (members e)
  members_at bs d (Leaf h) n x = ap (λ (z : Tree). map type_of (members z)) (leaf_at h)
  members_at bs d (One (HBound i) a) n x = ap (map type_of) (expression_members (at d (One (HBound i) a)) (inl (put_at bs d i a n x).sort))
  members_at bs d (One (HParam m) a) n x = refl
  members_at bs d (One _ a) n x = refl
  members_at bs d (Two HCell a b) n x =
      let l = types_at bs d a n x.2 in
      let r = members_at bs (d + 0) b (omega arith) x.3 in
      cc
  members_at bs d (Two _ a b) n x = refl
  members_at bs d (Three h a b c) n x = refl

  -- branches
  branches_at : (bs : List Tree) (d : ℕ) (type : Option Tree) (first b : Tree) → d ≡ length bs → HasTyping v (bs ++ from) b → BranchesFit type first b → BranchesFit type first (at d b)
  branches_at bs d type first (Leaf h) n x y = subst (BranchesFit type first) (sym (leaf_at h)) tt
  branches_at bs d type first (One (HBound i) a) n x y = expression_branches type first (at d (One (HBound i) a)) (inl (put_at bs d i a n x).sort)
  branches_at bs d type first (One (HParam m) a) n x y = tt
  branches_at bs d type first (One _ a) n x y = tt
  branches_at bs d type first (Two HCell (Two HArm p e) b) n x y = (
    (
      types_at bs d p n x.2.2 ∙ y.0.0,
      sort_at (d + pat_vars p) e ∙ y.0.1,
      types_at (pattern_types p ++ bs) (d + pat_vars p) e (depth bs d HArm p e n x.2) (deeper bs HArm p e x.2) ∙ y.0.2,
    ),
    branches_at bs (d + 0) type first b (omega arith) x.3 y.1,
  )
  branches_at bs d type first (Two HCell a b) n x y = absurd y.0
  branches_at bs d type first (Two _ a b) n x y = tt
  branches_at bs d type first (Three h a b c) n x y = tt

  -- the body of the first branch
  first_at : (bs : List Tree) (d : ℕ) (type : Option Tree) (first b : Tree) → d ≡ length bs → head_of b ≡ HCell → HasTyping v (bs ++ from) b → BranchesFit type first b
      → (sort_of (first_body (at d b)) ≡ sort_of (first_body b)) × (type_of (first_body (at d b)) ≡ type_of (first_body b))
  first_at bs d type first (Leaf h) n q x y = let l : first_body (at d (Leaf h)) ≡ Leaf h = ap first_body (leaf_at h) in (ap sort_of l, ap type_of l)
  first_at bs d type first (One h a) n q x y = absurd (one_is_no_cell h a x.0 q)
  first_at bs d type first (Two HCell (Two HArm p e) b) n q x y =
      (sort_at (d + pat_vars p) e, types_at (pattern_types p ++ bs) (d + pat_vars p) e (depth bs d HArm p e n x.2) (deeper bs HArm p e x.2))
  first_at bs d type first (Two HCell a b) n q x y = absurd y.0
  first_at bs d type first (Two _ a b) n q x y = absurd (cc)
  first_at bs d type first (Three h a b c) n q x y = absurd (three_no_cell h a b c x.0 q)

  -- a symbol at types
  use_at : (bs : List Tree) (d c : ℕ) (e : SymbolTree) (a b : Tree) → c ≡ length bs → HasTyping v (bs ++ from) a → IsList Kind a → HasTyping v (bs ++ from) b → IsUse e a b → IsUse e (at d a) (at c b)
  use_at bs d c e a b n x k y u =
      let q : at d a ≡ a = kinds_at d (bs ++ from) a x (inr k) in
      subst (λ (z : Tree). IsUse e z (at c b)) (sym q) (record { as_many = u.as_many; fit = members_at bs c b n y ∙ u.fit })

  -- each operator
  one_typed : (bs : List Tree) (d : ℕ) (h : Head) (a : Tree) → d ≡ length bs → HasTyping v (bs ++ from) (One h a) → HasTyping v (bs ++ to) (at d a) → HasTyping v (bs ++ to) (at d (One h a))
  one_typed bs d (HBound i) a n x y = (put_at bs d i a n x).typed
  one_typed bs d (HParam m) a n x y = (one_fits (ch) puts d (HParam m) a x.0, tt, y)
  one_typed bs d (HTyApp k) a n x y =
      let q : at d a ≡ a = kinds_at d (bs ++ from) a x.2 (inr x.0) in
      (one_fits (ch) puts d (HTyApp k) a x.0, subst (λ (z : Tree). IsTypeSymbol v k (length (members z))) (sym q) x.1, y)
  one_typed bs d h a n x y = (one_fits (ch) puts d h a x.0, tt, y)

  two_typed : (bs : List Tree) (d : ℕ) (h : Head) (a b : Tree) → d ≡ length bs → HasTyping v (bs ++ from) (Two h a b) → TwoTyped v h (at d a) (at (d + binders_over h a) b)
  two_typed bs d (HPred p) a b n x = (x.1.0, some_kept (entry v p) _ _ (λ e g y. (y.0, use_at bs d (d + 0) e a b (omega arith) x.2 x.0.0.0 x.3 y.1)) x.1.1)
  two_typed bs d HEq a b n x = types_at bs d a n x.2 ∙ x.1 ∙ sym (types_at bs (d + 0) b (omega arith) x.3)
  two_typed bs d HCase a b n x =
      let f = first_at bs (d + 0) (type_of a) (first_body b) b (omega arith) x.0.1 x.3 x.1 in
      branches_alike (type_of a) (type_of (at d a)) (first_body b) (first_body (at (d + 0) b)) (at (d + 0) b) (types_at bs d a n x.2) f.0 f.1 (branches_at bs (d + 0) (type_of a) (first_body b) b (omega arith) x.3 x.1)
  two_typed bs d _ a b n x = tt

  three_typed : (bs : List Tree) (d : ℕ) (h : Head) (a b c : Tree) → d ≡ length bs → HasTyping v (bs ++ from) (Three h a b c) → ThreeTyped v h (at d a) (at d b) (at d c)
  three_typed bs d (HFun k) a b c n x =
      let q : at d c ≡ c = kinds_at d (bs ++ from) c x.4 (inl x.0.2) in
      let r : at d a ≡ a = kinds_at d (bs ++ from) a x.2 (inr x.0.0) in
      (x.1.0, some_kept (entry v k) _ _ (λ e g y. (y.0, use_at bs d d e a b n x.2 x.0.0 x.3 y.1, subst (λ (z : Tree). HasResult e z (at d c)) (sym r) (subst (λ (z : Tree). HasResult e a z) (sym q) y.2))) x.1.1)
  three_typed bs d HIf a b c n x = types_at bs d b n x.3 ∙ x.1 ∙ sym (types_at bs d c n x.4)
  three_typed bs d (HPatCon k) a b c n x =
      let q : at d c ≡ c = kinds_at d (bs ++ from) c x.4 (inl x.0.2) in
      let r : at d a ≡ a = kinds_at d (bs ++ from) a x.2 (inr x.0.0) in
      (x.1.0, some_kept (entry v k) _ _ (λ e g y. (y.0, use_at bs d d e a b n x.2 x.0.0 x.3 y.1, subst (λ (z : Tree). HasResult e z (at d c)) (sym r) (subst (λ (z : Tree). HasResult e a z) (sym q) y.2))) x.1.1)
  three_typed bs d _ a b c n x = tt

  pub typed_at : (bs : List Tree) (d : ℕ) (e : Tree) → d ≡ length bs → HasTyping v (bs ++ from) e → HasTyping v (bs ++ to) (at d e)
  typed_at bs d (Leaf h) n x = subst (HasTyping v (bs ++ to)) (sym (leaf_at h)) x
  typed_at bs d (One h a) n x = one_typed bs d h a n x (typed_at bs d a n x.2)
  typed_at bs d (Two h a b) n x =
      let u : HasTyping v ((bound_types h a ++ bs) ++ to) (at (d + binders_over h a) b) = typed_at (bound_types h a ++ bs) (d + binders_over h a) b (depth bs d h a b n x) (deeper bs h a b x) in (
        two_fits (ch) puts d (d + binders_over h a) h a b x.0,
        two_typed bs d h a b n x,
        typed_at bs d a n x.2,
        subst (λ (l : List Tree). HasTyping v (l ++ (bs ++ to)) (at (d + binders_over h a) b)) (sym (bound_at bs d h a b n x)) (subst (λ (l : List Tree). HasTyping v l (at (d + binders_over h a) b)) (append_assoc (bound_types h a) bs to) u),
      )
  typed_at bs d (Three h a b c) n x = (three_fits (ch) puts d h a b c x.0, three_typed bs d h a b c n x, typed_at bs d a n x.2, typed_at bs d b n x.3, typed_at bs d c n x.4)

bound_is : (v : Vocabulary) (types more : List Tree) (i : ℕ) (a : Tree) → sort_of a ≡ Kind → HasTyping v types a → slice_get more i ≡ Some a → IsPut v more a (Bound i a)
bound_is v types more i a k x q = record { sort = refl; typed = ((k, tt), q, kind_has v types more a k x); type = refl }

shift_put : (v : Vocabulary) (more types bs : List Tree) (d i : ℕ) (a : Tree) → d ≡ length bs → HasTyping v (bs ++ types) (One (HBound i) a) → IsPut v (bs ++ (more ++ types)) a ((shifting (length more) 0).bound d i a)
shift_put v more types bs d i a n x = by (cases_lt i d)
  where
    by : (i < d) ⊎ (d ≤ i) → IsPut v (bs ++ (more ++ types)) a ((shifting (length more) 0).bound d i a)
    by (inl l) =
        subst (λ (j : ℕ). IsPut v (bs ++ (more ++ types)) a (Bound j a)) (sym (shift_below (length more) 0 d i (omega arith)))
        (bound_is v (bs ++ types) (bs ++ (more ++ types)) i a x.0.0 x.2 (slice_front bs (more ++ types) i (omega arith) ∙ sym (slice_front bs types i (omega arith)) ∙ x.1))
    by (inr l) =
        let h : slice_get types (i - d) ≡ Some a = sym (slice_after bs types i (i - d) (omega arith)) ∙ x.1 in
        let m : slice_get (more ++ types) (length more + (i - d)) ≡ Some a = slice_after more types (length more + (i - d)) (i - d) refl ∙ h in
        subst (λ (j : ℕ). IsPut v (bs ++ (more ++ types)) a (Bound j a)) (sym (shift_above (length more) 0 d i (omega arith)))
        (bound_is v (bs ++ types) (bs ++ (more ++ types)) (i + length more) a x.0.0 x.2 (slice_after bs (more ++ types) (i + length more) (length more + (i - d)) (omega arith) ∙ m))

module _ (v : Vocabulary) (more types : List Tree) (e : Tree) (x : HasTyping v types e) where
  pub shift_has : HasTyping v (more ++ types) (shift e (length more) 0)
  shift_has = typed_at v types (more ++ types) (shifting (length more) 0).bound (sorts_shifting (length more) 0) (λ bs d i a n y. shift_put v more types bs d i a n y) [] 0 e refl x

  pub shift_type : type_of (shift e (length more) 0) ≡ type_of e
  shift_type = types_at v types (more ++ types) (shifting (length more) 0).bound (sorts_shifting (length more) 0) (λ bs d i a n y. shift_put v more types bs d i a n y) [] 0 e refl x

-- ---- many open terms put into an open tree: one for each of the innermost variables, the last one for the variable 0
module _ (v : Vocabulary) (types tys ts : List Tree) (o : AreTermsFor v types tys ts) where
  many_sorts : PutsSorts (instantiating_many ts)
  many_sorts = record { bound = λ d i ty. by d i ty (cases_many i d (length ts)); param = λ _ _ _. refl; ty_var = λ _. refl }
    where
      by : (d i : ℕ) (ty : Tree) → (i < d) ⊎ (((k : ℕ) × ((d ≤ i) × (i + k + 1 ≡ d + length ts))) ⊎ (d + length ts ≤ i)) → sort_of ((instantiating_many ts).bound d i ty) ≡ Term
      by d i ty (inl l) = ap sort_of (many_below ts d i ty l)
      by d i ty (inr (inl k)) =
          let n : length ts ≡ length tys = o.as_many in
          let p = present tys (i - d) (omega (arith, k.1.0, k.1.1)) in
          ap sort_of (many_at ts d i k.0 ty k.1.0 k.1.1) ∙ sort_of-change (shifting d 0) (sorts_shifting d 0) 0 (get_or ts k.0 ty) ∙ (o.each (i - d) k.0 p.0 ty p.1 (omega (arith, k.1.0, k.1.1))).0
      by d i ty (inr (inr l)) = ap sort_of (many_above ts d i ty l)

  many_put : (bs : List Tree) (d i : ℕ) (a : Tree) → d ≡ length bs → HasTyping v (bs ++ (tys ++ types)) (One (HBound i) a) → IsPut v (bs ++ types) a ((instantiating_many ts).bound d i a)
  many_put bs d i a n x = by (cases_many i d (length ts))
    where
      by : (i < d) ⊎ (((k : ℕ) × ((d ≤ i) × (i + k + 1 ≡ d + length ts))) ⊎ (d + length ts ≤ i)) → IsPut v (bs ++ types) a ((instantiating_many ts).bound d i a)
      by (inl l) =
          subst (IsPut v (bs ++ types) a) (sym (many_below ts d i a l))
          (bound_is v (bs ++ (tys ++ types)) (bs ++ types) i a x.0.0 x.2 (slice_front bs types i (omega arith) ∙ sym (slice_front bs (tys ++ types) i (omega arith)) ∙ x.1))
      by (inr (inl k)) =
          let q : length ts ≡ length tys = o.as_many in
          let h : slice_get (tys ++ types) (i - d) ≡ Some a = sym (slice_after bs (tys ++ types) i (i - d) (omega (arith, k.1.0))) ∙ x.1 in
          let g : slice_get tys (i - d) ≡ Some a = sym (slice_front tys types (i - d) (omega (arith, k.1.0, k.1.1))) ∙ h in
          let w = o.each (i - d) k.0 a a g (omega (arith, k.1.0, k.1.1)) in
          let t = get_or ts k.0 a in
          subst (IsPut v (bs ++ types) a) (sym (many_at ts d i k.0 a k.1.0 k.1.1)) (record {
            sort = sort_of-change (shifting d 0) (sorts_shifting d 0) 0 t ∙ w.0;
            typed = subst (λ (m : ℕ). HasTyping v (bs ++ types) (shift t m 0)) (sym n) (shift_has v bs types t w.1.1);
            type = subst (λ (m : ℕ). type_of (shift t m 0) ≡ Some a) (sym n) (shift_type v bs types t w.1.1 ∙ w.1.0);
          })
      by (inr (inr l)) =
          let q : length ts ≡ length tys = o.as_many in
          let h : slice_get (tys ++ types) (i - d) ≡ Some a = sym (slice_after bs (tys ++ types) i (i - d) (omega arith)) ∙ x.1 in
          let g : slice_get types (i - d - length tys) ≡ Some a = sym (slice_after tys types (i - d) (i - d - length tys) (omega arith)) ∙ h in
          subst (IsPut v (bs ++ types) a) (sym (many_above ts d i a l))
          (bound_is v (bs ++ (tys ++ types)) (bs ++ types) (i - length ts) a x.0.0 x.2 (slice_after bs types (i - length ts) (i - d - length tys) (omega arith) ∙ g))

  module _ (b : Tree) (x : HasTyping v (tys ++ types) b) where
    pub many_has : HasTyping v types (inst_many b ts)
    many_has = typed_at v (tys ++ types) types (instantiating_many ts).bound many_sorts (λ bs d i a n y. many_put bs d i a n y) [] 0 b refl x

    pub many_type : type_of (inst_many b ts) ≡ type_of b
    many_type = types_at v (tys ++ types) types (instantiating_many ts).bound many_sorts (λ bs d i a n y. many_put bs d i a n y) [] 0 b refl x

    pub many_sort : sort_of (inst_many b ts) ≡ sort_of b
    many_sort = sort_of-change (instantiating_many ts) many_sorts 0 b

-- ---- type variables and parameters
module _ (B : ℕ → ℕ → Tree → Tree) (ps : List Tree) (p : (d i : ℕ) (x : Tree) → ParametersOf ps x → ParametersOf ps (B d i x)) where
  parameters_one : (d : ℕ) (h : Head) (a : Tree) → HasSorts (One h a) → ParametersOf ps (One h a) → ParametersOf ps (change (varying B) d a) → ParametersOf ps (change (varying B) d (One h a))
  parameters_one d (HBound i) a w q r = p d i (change (varying B) d a) r
  parameters_one d (HParam m) a w q r =
      let same : change (varying B) d a ≡ a = types_left (varying B) (λ _. refl) d a (kinds_only a w.1 (inl w.0)) in
      subst (λ (z : Tree). ParametersOf ps (Param m z)) (sym same) q
  parameters_one d h a w q r = (q.0, r)

  parameters_leaf : (h : Head) → ParametersOf ps (leaf_by (varying B) h)
  parameters_leaf (HTyVar j) = tt
  parameters_leaf _ = tt

  parameters_changed : (d : ℕ) (e : Tree) → HasSorts e → ParametersOf ps e → ParametersOf ps (change (varying B) d e)
  parameters_changed d (Leaf h) w q = parameters_leaf h
  parameters_changed d (One h a) w q = parameters_one d h a w q (parameters_changed d a w.1 q.1)
  parameters_changed d (Two h a b) w q = (parameters_changed d a w.1 q.0, parameters_changed (d + binders_over h a) b w.2 q.1)
  parameters_changed d (Three h a b c) w q = (parameters_changed d a w.1 q.0, parameters_changed d b w.2 q.1, parameters_changed d c w.3 q.2)

-- many open terms put in give theirs
module _ (ts : List Tree) where
  many_by : (Q : Tree → Type 0) (d i : ℕ) (x : Tree) → ((j : ℕ) → Q (Bound j x)) → ((k : ℕ) → k < length ts → Q (shift (get_or ts k x) d 0)) → Q ((instantiating_many ts).bound d i x)
  many_by Q d i x f g = by (cases_many i d (length ts))
    where
      by : (i < d) ⊎ (((k : ℕ) × ((d ≤ i) × (i + k + 1 ≡ d + length ts))) ⊎ (d + length ts ≤ i)) → Q ((instantiating_many ts).bound d i x)
      by (inl l) = subst Q (sym (many_below ts d i x l)) (f i)
      by (inr (inl k)) = subst Q (sym (many_at ts d i k.0 x k.1.0 k.1.1)) (g k.0 (omega (arith, k.1.0, k.1.1)))
      by (inr (inr l)) = subst Q (sym (many_above ts d i x l)) (f (i - length ts))

  pub many_variables : (n : ℕ) → ((k : ℕ) (e : Tree) → k < length ts → VariablesBelow n (get_or ts k e)) → (b : Tree) → VariablesBelow n b → VariablesBelow n (inst_many b ts)
  many_variables n u b h =
      variables_varied (instantiating_many ts).bound n (λ d i x k. many_by (VariablesBelow n) d i x (λ j. k) (λ m l. variables_varied (shifting d 0).bound n (λ e j y z. z) 0 (get_or ts m x) (u m x l))) 0 b h

  pub many_above_params : (n : ℕ) → ((k : ℕ) (e : Tree) → k < length ts → above_params (get_or ts k e) ≤ n) → (b : Tree) → above_params b ≤ n → above_params (inst_many b ts) ≤ n
  many_above_params n u b h =
      above_varied (instantiating_many ts).bound n (λ d i x k. many_by (λ z. above_params z ≤ n) d i x (λ j. k) (λ m l. above_varied (shifting d 0).bound n (λ e j y z. z) 0 (get_or ts m x) (u m x l))) 0 b h

  pub many_parameters : (ps : List Tree) → ((k : ℕ) (e : Tree) → k < length ts → HasSorts (get_or ts k e) × ParametersOf ps (get_or ts k e)) → (b : Tree) → HasSorts b → ParametersOf ps b → ParametersOf ps (inst_many b ts)
  many_parameters ps u b w h =
      parameters_changed (instantiating_many ts).bound ps
      (λ d i x k. many_by (ParametersOf ps) d i x (λ j. (tt, k)) (λ m l. let t = u m x l in parameters_changed (shifting d 0).bound ps (λ e j z k. (tt, k)) 0 (get_or ts m x) t.0 t.1)) 0 b w h
