-- A change of a typed tree that puts terms of the right types for its open variables is typed: shifts, and open terms put in.
use Rattle.std.proofs.Common.{◌≡◌, ℕ, suc, ◌+◌, ◌-◌, ◌<◌, ◌≤◌, ◌⊎◌, inl, inr, List, [], ◌∷◌, ◌++◌, map, length, get_or, slice_get, Option, Some, subst, refl, sym, ap, ◌∙◌, arith, append_assoc}
use Rattle.std.proofs.lemmas.List.{length-append}
use Rattle.trees.specs.declared.Sort.TheVariants.{Kind, Term}
use Rattle.trees.specs.Tree.{Tree, Leaf, One, Two, Three, Head, HTyVar, HTyApp, HCell, HBound, HParam, HFun, HPred, HEq, HForall, HExists, HLet, HIf, HCase, HArm, HPatAny, HPatVar, HPatCon, HPatAlias, head_of, binders_over, pat_vars, above_params, one_params}
use Rattle.trees.specs.Binding.{Change, change, leaf_by, one_by, Bound, Param, TyVar, shifting, shift, instantiating, inst, instantiating_many, inst_many}
use Rattle.trees.specs.Sorts.{WellSorted, sort_of, yield_type, type_of, top_type, two_type, IsList}
use Rattle.trees.specs.Facts.{PutsSorts}
use Rattle.trees.specs.laws.Sorts.{sort_of-change}
use Rattle.trees.proofs.Types.{only_types, AreKinds, one_no_cell, three_no_cell}
use Rattle.trees.specs.laws.Indices.{inst_at, inst_below, inst_above, shift_below, shift_above}
use Rattle.std.proofs.lemmas.Bool.{cases_lt, cases_order}
use Rattle.trees.specs.binders.Visits.{sorts_shifting, sorts_inst}
use Rattle.trees.proofs.Above.{types_left, type_left}
use Rattle.trees.proofs.Many.{many_below, many_at, many_above, cases_many}
use Rattle.tasks.specs.Task.{SymbolTree}
use Rattle.tasks.specs.Vocabulary.{Vocabulary}
use Rattle.tasks.specs.Typing.{members, entry, IsTypeSymbol, IsUse, HasResult, option_list, three_pattern, pattern_types, bound_types, BranchesFit, first_body, TwoTyped, ThreeTyped, TypedUnder}
use Rattle.tasks.proofs.Closing.{typed_sorted}
use Rattle.tasks.proofs.Counts.{bound_count}
use Rattle.tasks.specs.Valid.{VariablesBelow, LeafBelow, ParametersOf}
use Rattle.tasks.proofs.typed_trees.instances.Typed.{present, kind_typed}
use Rattle.tasks.proofs.TypeInstances.{some_kept}
use Rattle.images.specs.OpenTerms.{AreOpenFor}
use Rattle.images.proofs.Slices.{slice_front, slice_after}
use Rattle.images.proofs.Images.{expression_type, expression_members, expression_branches, expression_variables, branches_alike}

-- a term that is put in for a variable of this type, below binders of these types
pub record IsPut (v : Vocabulary) (bs : List Tree) (ty t : Tree) : Type 0 where
  pub sort : sort_of t ≡ Term
  pub typed : WellSorted t → TypedUnder v bs t
  pub type : type_of t ≡ Some ty

-- A change of bound variables alone: what is put for a variable under binders of the types `bs ++ from` is a term of its type under
-- binders of the types `bs ++ to`. Then a tree typed under the one is typed under the other.
abbrev pub varying : (ℕ → ℕ → Tree → Tree) → Change
varying B = record { bound = B; param = λ d n ty. Param n ty; ty_var = λ j. TyVar j }

module _ (v : Vocabulary) (from to : List Tree) (B : ℕ → ℕ → Tree → Tree) (puts : PutsSorts (varying B))
    (put : (bs : List Tree) (d i : ℕ) (a : Tree) → d ≡ length bs → TypedUnder v (bs ++ from) (One (HBound i) a) → IsPut v (bs ++ to) a (B d i a)) where
  abbrev ch : Change
  ch = varying B

  abbrev at : ℕ → Tree → Tree
  at d e = change (varying B) d e

  pub sort_at : (d : ℕ) (e : Tree) → sort_of (at d e) ≡ sort_of e
  sort_at d e = sort_of-change (ch) puts d e

  kinds_at : (d : ℕ) (ts : List Tree) (e : Tree) → TypedUnder v ts e → AreKinds e → at d e ≡ e
  kinds_at d ts e x k = types_left (ch) (λ _. refl) d e (only_types e (typed_sorted v ts e x) k)

  leaf_at : (h : Head) → leaf_by (ch) h ≡ Leaf h
  leaf_at (HTyVar j) = refl
  leaf_at _ = refl

  put_at : (bs : List Tree) (d i : ℕ) (a : Tree) → d ≡ length bs → TypedUnder v (bs ++ from) (One (HBound i) a) → IsPut v (bs ++ to) a (at d (One (HBound i) a))
  put_at bs d i a n x =
      subst (λ (z : Tree). IsPut v (bs ++ to) a ((ch).bound d i z)) (sym (kinds_at d (bs ++ from) a x.2 (inl x.0.0))) (put bs d i a n x)

  -- what is under the binders of an operator
  deeper : (bs : List Tree) (h : Head) (a b : Tree) → TypedUnder v (bs ++ from) (Two h a b) → TypedUnder v ((bound_types h a ++ bs) ++ from) b
  deeper bs h a b x = rw (append_assoc (bound_types h a) bs from) x.3

  depth : (bs : List Tree) (d : ℕ) (h : Head) (a b : Tree) → d ≡ length bs → TypedUnder v (bs ++ from) (Two h a b) → d + binders_over h a ≡ length (bound_types h a ++ bs)
  depth bs d h a b n x = omega (arith, length-append (bound_types h a) bs, bound_count h a b x.0 (typed_sorted v (bs ++ from) a x.2))

  -- types of terms
  type_at : (bs : List Tree) (d : ℕ) (e : Tree) → d ≡ length bs → TypedUnder v (bs ++ from) e → (yield_type (at d e) ≡ yield_type e) × (type_of (at d e) ≡ type_of e)
  type_at bs d (Leaf h) n x = (ap yield_type (leaf_at h), ap type_of (leaf_at h))
  type_at bs d (One (HBound i) a) n x = let p = put_at bs d i a n x in (sym (expression_type (at d (One (HBound i) a)) (inl p.sort)) ∙ p.type, p.type)
  type_at bs d (One (HParam m) a) n x = let q : at d a ≡ a = kinds_at d (bs ++ from) a x.2 (inl x.0) in (ap Some q, ap Some q)
  type_at bs d (One HPatAny a) n x = let q : at d a ≡ a = kinds_at d (bs ++ from) a x.2 (inl x.0) in (ap Some q, ap Some q)
  type_at bs d (One HPatVar a) n x = let q : at d a ≡ a = kinds_at d (bs ++ from) a x.2 (inl x.0) in (ap Some q, ap Some q)
  type_at bs d (One HPatAlias a) n x = let q = (type_at bs d a n x.2).0 in (q, q)
  type_at bs d (One _ a) n x = (refl, refl)
  type_at bs d (Two h a b) n x =
      let l = (type_at bs d a n x.2).0 in
      let r = (type_at (bound_types h a ++ bs) (d + binders_over h a) b (depth bs d h a b n x) (deeper bs h a b x)).0 in
      let q : two_type h (yield_type (at d a)) (yield_type (at (d + binders_over h a) b)) ≡ two_type h (yield_type a) (yield_type b) = cc in
      (q, ap (top_type h) q)
  type_at bs d (Three (HFun k) a b c) n x = let q : at d c ≡ c = kinds_at d (bs ++ from) c x.4 (inl x.0.2) in (ap Some q, ap Some q)
  type_at bs d (Three (HPatCon k) a b c) n x = let q : at d c ≡ c = kinds_at d (bs ++ from) c x.4 (inl x.0.2) in (ap Some q, ap Some q)
  type_at bs d (Three HIf a b c) n x = let q = (type_at bs d b n x.3).0 in (q, q)
  type_at bs d (Three _ a b c) n x = absurd x.0

  pub types_at : (bs : List Tree) (d : ℕ) (e : Tree) → d ≡ length bs → TypedUnder v (bs ++ from) e → type_of (at d e) ≡ type_of e
  types_at bs d e n x = (type_at bs d e n x).1

  -- variables of patterns
  variables_at : (bs : List Tree) (d : ℕ) (e : Tree) → d ≡ length bs → TypedUnder v (bs ++ from) e → pattern_types (at d e) ≡ pattern_types e
  variables_at bs d (Leaf h) n x = ap pattern_types (leaf_at h)
  variables_at bs d (One (HBound i) a) n x = expression_variables (at d (One (HBound i) a)) (inl (put_at bs d i a n x).sort)
  variables_at bs d (One (HParam m) a) n x = refl
  variables_at bs d (One HPatVar a) n x = let q : at d a ≡ a = kinds_at d (bs ++ from) a x.2 (inl x.0) in ap (λ (z : Tree). z ∷ []) q
  variables_at bs d (One HPatAlias a) n x = let q = types_at bs d a n x.2 in let r = variables_at bs d a n x.2 in cc
  variables_at bs d (One _ a) n x = refl
  variables_at bs d (Two h a b) n x =
      let l = variables_at bs d a n x.2 in
      let r = variables_at (bound_types h a ++ bs) (d + binders_over h a) b (depth bs d h a b n x) (deeper bs h a b x) in
      cc
  variables_at bs d (Three h a b c) n x = ap (three_pattern h) (variables_at bs d b n x.3)

  bound_at : (bs : List Tree) (d : ℕ) (h : Head) (a b : Tree) → d ≡ length bs → TypedUnder v (bs ++ from) (Two h a b) → bound_types h (at d a) ≡ bound_types h a
  bound_at bs d HForall a b n x = ap (λ (z : Tree). z ∷ []) (kinds_at d (bs ++ from) a x.2 (inl x.0.0.0))
  bound_at bs d HExists a b n x = ap (λ (z : Tree). z ∷ []) (kinds_at d (bs ++ from) a x.2 (inl x.0.0.0))
  bound_at bs d HLet a b n x = ap option_list (types_at bs d a n x.2)
  bound_at bs d HArm a b n x = variables_at bs d a n x.2
  bound_at bs d _ a b n x = refl

  -- types of the members of a list
  members_at : (bs : List Tree) (d : ℕ) (e : Tree) → d ≡ length bs → TypedUnder v (bs ++ from) e → map type_of (members (at d e)) ≡ map type_of (members e)
  members_at bs d (Leaf h) n x = ap (λ (z : Tree). map type_of (members z)) (leaf_at h)
  members_at bs d (One (HBound i) a) n x = ap (map type_of) (expression_members (at d (One (HBound i) a)) (inl (put_at bs d i a n x).sort))
  members_at bs d (One (HParam m) a) n x = refl
  members_at bs d (One _ a) n x = refl
  members_at bs d (Two HCell a b) n x =
      let l = types_at bs d a n x.2 in
      let r = members_at bs (d + 0) b (omega arith) x.3 in
      cc
  members_at bs d (Two _ a b) n x = refl
  members_at bs d (Three h a b c) n x = refl

  -- branches
  branches_at : (bs : List Tree) (d : ℕ) (type : Option Tree) (first b : Tree) → d ≡ length bs → TypedUnder v (bs ++ from) b → BranchesFit type first b → BranchesFit type first (at d b)
  branches_at bs d type first (Leaf h) n x y = subst (BranchesFit type first) (sym (leaf_at h)) tt
  branches_at bs d type first (One (HBound i) a) n x y = expression_branches type first (at d (One (HBound i) a)) (inl (put_at bs d i a n x).sort)
  branches_at bs d type first (One (HParam m) a) n x y = tt
  branches_at bs d type first (One _ a) n x y = tt
  branches_at bs d type first (Two HCell (Two HArm p e) b) n x y = (
    (
      types_at bs d p n x.2.2 ∙ y.0.0,
      sort_at (d + pat_vars p) e ∙ y.0.1,
      types_at (pattern_types p ++ bs) (d + pat_vars p) e (depth bs d HArm p e n x.2) (deeper bs HArm p e x.2) ∙ y.0.2,
    ),
    branches_at bs (d + 0) type first b (omega arith) x.3 y.1,
  )
  branches_at bs d type first (Two HCell a b) n x y = absurd y.0
  branches_at bs d type first (Two _ a b) n x y = tt
  branches_at bs d type first (Three h a b c) n x y = tt

  -- the body of the first branch
  first_at : (bs : List Tree) (d : ℕ) (type : Option Tree) (first b : Tree) → d ≡ length bs → head_of b ≡ HCell → TypedUnder v (bs ++ from) b → BranchesFit type first b
      → (sort_of (first_body (at d b)) ≡ sort_of (first_body b)) × (type_of (first_body (at d b)) ≡ type_of (first_body b))
  first_at bs d type first (Leaf h) n q x y = let l : first_body (at d (Leaf h)) ≡ Leaf h = ap first_body (leaf_at h) in (ap sort_of l, ap type_of l)
  first_at bs d type first (One h a) n q x y = absurd (one_no_cell h a x.0 q)
  first_at bs d type first (Two HCell (Two HArm p e) b) n q x y =
      (sort_at (d + pat_vars p) e, types_at (pattern_types p ++ bs) (d + pat_vars p) e (depth bs d HArm p e n x.2) (deeper bs HArm p e x.2))
  first_at bs d type first (Two HCell a b) n q x y = absurd y.0
  first_at bs d type first (Two _ a b) n q x y = absurd (cc)
  first_at bs d type first (Three h a b c) n q x y = absurd (three_no_cell h a b c x.0 q)

  -- a symbol at types
  use_at : (bs : List Tree) (d c : ℕ) (e : SymbolTree) (a b : Tree) → c ≡ length bs → TypedUnder v (bs ++ from) a → IsList Kind a → TypedUnder v (bs ++ from) b → IsUse e a b → IsUse e (at d a) (at c b)
  use_at bs d c e a b n x k y u =
      let q : at d a ≡ a = kinds_at d (bs ++ from) a x (inr k) in
      subst (λ (z : Tree). IsUse e z (at c b)) (sym q) (record { as_many = u.as_many; fit = members_at bs c b n y ∙ u.fit })

  -- each operator
  one_typed : (bs : List Tree) (d : ℕ) (h : Head) (a : Tree) → d ≡ length bs → TypedUnder v (bs ++ from) (One h a) → (WellSorted (at d a) → TypedUnder v (bs ++ to) (at d a)) → WellSorted (at d (One h a)) → TypedUnder v (bs ++ to) (at d (One h a))
  one_typed bs d (HBound i) a n x y w = (put_at bs d i a n x).typed w
  one_typed bs d (HParam m) a n x y w = (w.0, tt, y w.1)
  one_typed bs d (HTyApp k) a n x y w =
      let q : at d a ≡ a = kinds_at d (bs ++ from) a x.2 (inr x.0) in
      (w.0, subst (λ (z : Tree). IsTypeSymbol v k (length (members z))) (sym q) x.1, y w.1)
  one_typed bs d h a n x y w = (w.0, tt, y w.1)

  two_typed : (bs : List Tree) (d : ℕ) (h : Head) (a b : Tree) → d ≡ length bs → TypedUnder v (bs ++ from) (Two h a b) → TwoTyped v h (at d a) (at (d + binders_over h a) b)
  two_typed bs d (HPred p) a b n x = (x.1.0, some_kept (entry v p) _ _ (λ e g y. (y.0, use_at bs d (d + 0) e a b (omega arith) x.2 x.0.0.0 x.3 y.1)) x.1.1)
  two_typed bs d HEq a b n x = types_at bs d a n x.2 ∙ x.1 ∙ sym (types_at bs (d + 0) b (omega arith) x.3)
  two_typed bs d HCase a b n x =
      let f = first_at bs (d + 0) (type_of a) (first_body b) b (omega arith) x.0.1 x.3 x.1 in
      branches_alike (type_of a) (type_of (at d a)) (first_body b) (first_body (at (d + 0) b)) (at (d + 0) b) (types_at bs d a n x.2) f.0 f.1 (branches_at bs (d + 0) (type_of a) (first_body b) b (omega arith) x.3 x.1)
  two_typed bs d _ a b n x = tt

  three_typed : (bs : List Tree) (d : ℕ) (h : Head) (a b c : Tree) → d ≡ length bs → TypedUnder v (bs ++ from) (Three h a b c) → ThreeTyped v h (at d a) (at d b) (at d c)
  three_typed bs d (HFun k) a b c n x =
      let q : at d c ≡ c = kinds_at d (bs ++ from) c x.4 (inl x.0.2) in
      let r : at d a ≡ a = kinds_at d (bs ++ from) a x.2 (inr x.0.0) in
      (x.1.0, some_kept (entry v k) _ _ (λ e g y. (y.0, use_at bs d d e a b n x.2 x.0.0 x.3 y.1, subst (λ (z : Tree). HasResult e z (at d c)) (sym r) (subst (λ (z : Tree). HasResult e a z) (sym q) y.2))) x.1.1)
  three_typed bs d HIf a b c n x = types_at bs d b n x.3 ∙ x.1 ∙ sym (types_at bs d c n x.4)
  three_typed bs d (HPatCon k) a b c n x =
      let q : at d c ≡ c = kinds_at d (bs ++ from) c x.4 (inl x.0.2) in
      let r : at d a ≡ a = kinds_at d (bs ++ from) a x.2 (inr x.0.0) in
      (x.1.0, some_kept (entry v k) _ _ (λ e g y. (y.0, use_at bs d d e a b n x.2 x.0.0 x.3 y.1, subst (λ (z : Tree). HasResult e z (at d c)) (sym r) (subst (λ (z : Tree). HasResult e a z) (sym q) y.2))) x.1.1)
  three_typed bs d _ a b c n x = tt

  pub typed_at : (bs : List Tree) (d : ℕ) (e : Tree) → d ≡ length bs → TypedUnder v (bs ++ from) e → WellSorted (at d e) → TypedUnder v (bs ++ to) (at d e)
  typed_at bs d (Leaf h) n x w = subst (TypedUnder v (bs ++ to)) (sym (leaf_at h)) x
  typed_at bs d (One h a) n x w = one_typed bs d h a n x (λ z. typed_at bs d a n x.2 z) w
  typed_at bs d (Two h a b) n x w =
      let u : TypedUnder v ((bound_types h a ++ bs) ++ to) (at (d + binders_over h a) b) = typed_at (bound_types h a ++ bs) (d + binders_over h a) b (depth bs d h a b n x) (deeper bs h a b x) w.2 in (
        w.0,
        two_typed bs d h a b n x,
        typed_at bs d a n x.2 w.1,
        subst (λ (l : List Tree). TypedUnder v (l ++ (bs ++ to)) (at (d + binders_over h a) b)) (sym (bound_at bs d h a b n x)) (subst (λ (l : List Tree). TypedUnder v l (at (d + binders_over h a) b)) (append_assoc (bound_types h a) bs to) u),
      )
  typed_at bs d (Three h a b c) n x w = (w.0, three_typed bs d h a b c n x, typed_at bs d a n x.2 w.1, typed_at bs d b n x.3 w.2, typed_at bs d c n x.4 w.3)

bound_is : (v : Vocabulary) (types more : List Tree) (i : ℕ) (a : Tree) → sort_of a ≡ Kind → TypedUnder v types a → slice_get more i ≡ Some a → IsPut v more a (Bound i a)
bound_is v types more i a k x q = record { sort = refl; typed = λ w. (w.0, q, kind_typed v types more a k x); type = refl }

shift_put : (v : Vocabulary) (more types bs : List Tree) (d i : ℕ) (a : Tree) → d ≡ length bs → TypedUnder v (bs ++ types) (One (HBound i) a) → IsPut v (bs ++ (more ++ types)) a ((shifting (length more) 0).bound d i a)
shift_put v more types bs d i a n x = by (cases_lt i d)
  where
    by : (i < d) ⊎ (d ≤ i) → IsPut v (bs ++ (more ++ types)) a ((shifting (length more) 0).bound d i a)
    by (inl l) =
        subst (λ (j : ℕ). IsPut v (bs ++ (more ++ types)) a (Bound j a)) (sym (shift_below (length more) 0 d i (omega arith)))
        (bound_is v (bs ++ types) (bs ++ (more ++ types)) i a x.0.0 x.2 (slice_front bs (more ++ types) i (omega arith) ∙ sym (slice_front bs types i (omega arith)) ∙ x.1))
    by (inr l) =
        let h : slice_get types (i - d) ≡ Some a = sym (slice_after bs types i (i - d) (omega arith)) ∙ x.1 in
        let m : slice_get (more ++ types) (length more + (i - d)) ≡ Some a = slice_after more types (length more + (i - d)) (i - d) refl ∙ h in
        subst (λ (j : ℕ). IsPut v (bs ++ (more ++ types)) a (Bound j a)) (sym (shift_above (length more) 0 d i (omega arith)))
        (bound_is v (bs ++ types) (bs ++ (more ++ types)) (i + length more) a x.0.0 x.2 (slice_after bs (more ++ types) (i + length more) (length more + (i - d)) (omega arith) ∙ m))

module _ (v : Vocabulary) (more types : List Tree) (e : Tree) (x : TypedUnder v types e) where
  pub shift_typed : WellSorted (shift e (length more) 0) → TypedUnder v (more ++ types) (shift e (length more) 0)
  shift_typed w = typed_at v types (more ++ types) (shifting (length more) 0).bound (sorts_shifting (length more) 0) (λ bs d i a n y. shift_put v more types bs d i a n y) [] 0 e refl x w

  pub shift_type : type_of (shift e (length more) 0) ≡ type_of e
  shift_type = types_at v types (more ++ types) (shifting (length more) 0).bound (sorts_shifting (length more) 0) (λ bs d i a n y. shift_put v more types bs d i a n y) [] 0 e refl x

-- ---- an open term put into an open tree
module _ (v : Vocabulary) (ty : Tree) (types : List Tree) (t : Tree) (s : sort_of t ≡ Term) (q : type_of t ≡ Some ty) (z : TypedUnder v types t) where
  inst_put : (bs : List Tree) (d i : ℕ) (a : Tree) → d ≡ length bs → TypedUnder v (bs ++ (ty ∷ types)) (One (HBound i) a) → IsPut v (bs ++ types) a ((instantiating t).bound d i a)
  inst_put bs d i a n x = by (cases_order i d)
    where
      by : (i ≡ d) ⊎ ((i < d) ⊎ (d < i)) → IsPut v (bs ++ types) a ((instantiating t).bound d i a)
      by (inl e) =
          let h : slice_get (ty ∷ types) 0 ≡ Some a = sym (slice_after bs (ty ∷ types) i 0 (omega arith)) ∙ x.1 in
          let k : ty ≡ a = cc in
          subst (IsPut v (bs ++ types) a) (sym (inst_at t d i a e)) (record {
            sort = sort_of-change (shifting d 0) (sorts_shifting d 0) 0 t ∙ s;
            typed = λ w. subst (λ (m : ℕ). TypedUnder v (bs ++ types) (shift t m 0)) (sym n) (shift_typed v bs types t z (subst (λ (m : ℕ). WellSorted (shift t m 0)) n w));
            type = subst (λ (m : ℕ). type_of (shift t m 0) ≡ Some a) (sym n) (shift_type v bs types t z ∙ q ∙ ap Some k);
          })
      by (inr (inl l)) =
          subst (IsPut v (bs ++ types) a) (sym (inst_below t d i a l))
          (bound_is v (bs ++ (ty ∷ types)) (bs ++ types) i a x.0.0 x.2 (slice_front bs types i (omega arith) ∙ sym (slice_front bs (ty ∷ types) i (omega arith)) ∙ x.1))
      by (inr (inr l)) =
          let h : slice_get types (i - 1 - d) ≡ Some a = sym (slice_after bs (ty ∷ types) i (suc (i - 1 - d)) (omega arith)) ∙ x.1 in
          subst (IsPut v (bs ++ types) a) (sym (inst_above t d i a l))
          (bound_is v (bs ++ (ty ∷ types)) (bs ++ types) (i - 1) a x.0.0 x.2 (slice_after bs types (i - 1) (i - 1 - d) (omega arith) ∙ h))

  module _ (b : Tree) (x : TypedUnder v (ty ∷ types) b) where
    pub open_inst_typed : WellSorted (inst b t) → TypedUnder v types (inst b t)
    open_inst_typed w = typed_at v (ty ∷ types) types (instantiating t).bound (sorts_inst t s) (λ bs d i a n y. inst_put bs d i a n y) [] 0 b refl x w

    pub open_inst_type : type_of (inst b t) ≡ type_of b
    open_inst_type = types_at v (ty ∷ types) types (instantiating t).bound (sorts_inst t s) (λ bs d i a n y. inst_put bs d i a n y) [] 0 b refl x

    pub open_inst_sort : sort_of (inst b t) ≡ sort_of b
    open_inst_sort = sort_of-change (instantiating t) (sorts_inst t s) 0 b

-- ---- type variables and parameters
module _ (B : ℕ → ℕ → Tree → Tree) where
  module _ (n : ℕ) (p : (d i : ℕ) (x : Tree) → VariablesBelow n x → VariablesBelow n (B d i x)) where
    variables_leaf : (h : Head) → LeafBelow n h → VariablesBelow n (leaf_by (varying B) h)
    variables_leaf (HTyVar j) b = b
    variables_leaf _ b = b

    variables_one : (d : ℕ) (h : Head) (x : Tree) → VariablesBelow n x → VariablesBelow n (one_by (varying B) d h x)
    variables_one d (HBound i) x b = p d i x b
    variables_one d (HParam m) x b = b
    variables_one d _ x b = b

    pub variables_varied : (d : ℕ) (e : Tree) → VariablesBelow n e → VariablesBelow n (change (varying B) d e)
    variables_varied d (Leaf h) b = variables_leaf h b
    variables_varied d (One h a) b = variables_one d h (change (varying B) d a) (variables_varied d a b)
    variables_varied d (Two h a b) v = (variables_varied d a v.0, variables_varied (d + binders_over h a) b v.1)
    variables_varied d (Three h a b c) v = (variables_varied d a v.0, variables_varied d b v.1, variables_varied d c v.2)

  module _ (m : ℕ) (p : (d i : ℕ) (x : Tree) → above_params x ≤ m → above_params (B d i x) ≤ m) where
    params_le : (h : Head) (k n : ℕ) → one_params h k ≤ n → k ≤ n
    params_le (HParam i) k n l = omega arith
    params_le _ k n l = l

    above_one : (d : ℕ) (h : Head) (x a : Tree) → one_params h (above_params a) ≤ m → above_params x ≤ m → above_params (one_by (varying B) d h x) ≤ m
    above_one d (HBound i) x a l q = p d i x q
    above_one d (HParam i) x a l q = omega arith
    above_one d _ x a l q = q

    above_leaf : (h : Head) → above_params (leaf_by (varying B) h) ≤ m
    above_leaf (HTyVar j) = omega arith
    above_leaf _ = omega arith

    pub above_varied : (d : ℕ) (e : Tree) → above_params e ≤ m → above_params (change (varying B) d e) ≤ m
    above_varied d (Leaf h) l = above_leaf h
    above_varied d (One h a) l = above_one d h (change (varying B) d a) a l (above_varied d a (params_le h (above_params a) m l))
    above_varied d (Two h a b) l = omega (arith, above_varied d a (omega arith), above_varied (d + binders_over h a) b (omega arith))
    above_varied d (Three h a b c) l = omega (arith, above_varied d a (omega arith), above_varied d b (omega arith), above_varied d c (omega arith))

  module _ (ps : List Tree) (p : (d i : ℕ) (x : Tree) → ParametersOf ps x → ParametersOf ps (B d i x)) where
    parameters_one : (d : ℕ) (h : Head) (a : Tree) → WellSorted (One h a) → ParametersOf ps (One h a) → ParametersOf ps (change (varying B) d a) → ParametersOf ps (change (varying B) d (One h a))
    parameters_one d (HBound i) a w q r = p d i (change (varying B) d a) r
    parameters_one d (HParam m) a w q r =
        let same : change (varying B) d a ≡ a = type_left (varying B) (λ _. refl) d a w.1 w.0 in
        subst (λ (z : Tree). ParametersOf ps (Param m z)) (sym same) q
    parameters_one d h a w q r = (q.0, r)

    parameters_leaf : (h : Head) → ParametersOf ps (leaf_by (varying B) h)
    parameters_leaf (HTyVar j) = tt
    parameters_leaf _ = tt

    pub parameters_varied : (d : ℕ) (e : Tree) → WellSorted e → ParametersOf ps e → ParametersOf ps (change (varying B) d e)
    parameters_varied d (Leaf h) w q = parameters_leaf h
    parameters_varied d (One h a) w q = parameters_one d h a w q (parameters_varied d a w.1 q.1)
    parameters_varied d (Two h a b) w q = (parameters_varied d a w.1 q.0, parameters_varied (d + binders_over h a) b w.2 q.1)
    parameters_varied d (Three h a b c) w q = (parameters_varied d a w.1 q.0, parameters_varied d b w.2 q.1, parameters_varied d c w.3 q.2)

-- what an open term that is put in gives
module _ (t : Tree) where
  put_by : (Q : Tree → Type 0) (d i : ℕ) (x : Tree) → ((j : ℕ) → Q (Bound j x)) → Q (shift t d 0) → Q ((instantiating t).bound d i x)
  put_by Q d i x f g = by (cases_order i d)
    where
      by : (i ≡ d) ⊎ ((i < d) ⊎ (d < i)) → Q ((instantiating t).bound d i x)
      by (inl e) = subst Q (sym (inst_at t d i x e)) g
      by (inr (inl l)) = subst Q (sym (inst_below t d i x l)) (f i)
      by (inr (inr l)) = subst Q (sym (inst_above t d i x l)) (f (i - 1))

  pub open_inst_variables : (n : ℕ) → VariablesBelow n t → (b : Tree) → VariablesBelow n b → VariablesBelow n (inst b t)
  open_inst_variables n u b h =
      variables_varied (instantiating t).bound n (λ d i x k. put_by (VariablesBelow n) d i x (λ j. k) (variables_varied (shifting d 0).bound n (λ e j y z. z) 0 t u)) 0 b h

  pub open_inst_above : (m : ℕ) → above_params t ≤ m → (b : Tree) → above_params b ≤ m → above_params (inst b t) ≤ m
  open_inst_above m u b h =
      above_varied (instantiating t).bound m (λ d i x k. put_by (λ z. above_params z ≤ m) d i x (λ j. k) (above_varied (shifting d 0).bound m (λ e j y z. z) 0 t u)) 0 b h

  pub open_inst_parameters : (ps : List Tree) → WellSorted t → ParametersOf ps t → (b : Tree) → WellSorted b → ParametersOf ps b → ParametersOf ps (inst b t)
  open_inst_parameters ps w u b x h =
      parameters_varied (instantiating t).bound ps (λ d i y k. put_by (ParametersOf ps) d i y (λ j. (tt, k)) (parameters_varied (shifting d 0).bound ps (λ e j z k. (tt, k)) 0 t w u)) 0 b x h

-- ---- many open terms put into an open tree: one for each of the innermost variables, the last one for the variable 0
module _ (v : Vocabulary) (types tys ts : List Tree) (o : AreOpenFor v types tys ts) where
  many_sorts : PutsSorts (instantiating_many ts)
  many_sorts = record { bound = λ d i ty. by d i ty (cases_many i d (length ts)); param = λ _ _ _. refl; ty_var = λ _. refl }
    where
      by : (d i : ℕ) (ty : Tree) → (i < d) ⊎ (((k : ℕ) × ((d ≤ i) × (i + k + 1 ≡ d + length ts))) ⊎ (d + length ts ≤ i)) → sort_of ((instantiating_many ts).bound d i ty) ≡ Term
      by d i ty (inl l) = ap sort_of (many_below ts d i ty l)
      by d i ty (inr (inl k)) =
          let n : length ts ≡ length tys = o.as_many in
          let p = present tys (i - d) (omega (arith, k.1.0, k.1.1)) in
          ap sort_of (many_at ts d i k.0 ty k.1.0 k.1.1) ∙ sort_of-change (shifting d 0) (sorts_shifting d 0) 0 (get_or ts k.0 ty) ∙ (o.each (i - d) k.0 p.0 ty p.1 (omega (arith, k.1.0, k.1.1))).0
      by d i ty (inr (inr l)) = ap sort_of (many_above ts d i ty l)

  many_put : (bs : List Tree) (d i : ℕ) (a : Tree) → d ≡ length bs → TypedUnder v (bs ++ (tys ++ types)) (One (HBound i) a) → IsPut v (bs ++ types) a ((instantiating_many ts).bound d i a)
  many_put bs d i a n x = by (cases_many i d (length ts))
    where
      by : (i < d) ⊎ (((k : ℕ) × ((d ≤ i) × (i + k + 1 ≡ d + length ts))) ⊎ (d + length ts ≤ i)) → IsPut v (bs ++ types) a ((instantiating_many ts).bound d i a)
      by (inl l) =
          subst (IsPut v (bs ++ types) a) (sym (many_below ts d i a l))
          (bound_is v (bs ++ (tys ++ types)) (bs ++ types) i a x.0.0 x.2 (slice_front bs types i (omega arith) ∙ sym (slice_front bs (tys ++ types) i (omega arith)) ∙ x.1))
      by (inr (inl k)) =
          let q : length ts ≡ length tys = o.as_many in
          let h : slice_get (tys ++ types) (i - d) ≡ Some a = sym (slice_after bs (tys ++ types) i (i - d) (omega (arith, k.1.0))) ∙ x.1 in
          let g : slice_get tys (i - d) ≡ Some a = sym (slice_front tys types (i - d) (omega (arith, k.1.0, k.1.1))) ∙ h in
          let w = o.each (i - d) k.0 a a g (omega (arith, k.1.0, k.1.1)) in
          let t = get_or ts k.0 a in
          subst (IsPut v (bs ++ types) a) (sym (many_at ts d i k.0 a k.1.0 k.1.1)) (record {
            sort = sort_of-change (shifting d 0) (sorts_shifting d 0) 0 t ∙ w.0;
            typed = λ z. subst (λ (m : ℕ). TypedUnder v (bs ++ types) (shift t m 0)) (sym n) (shift_typed v bs types t w.1.1 (subst (λ (m : ℕ). WellSorted (shift t m 0)) n z));
            type = subst (λ (m : ℕ). type_of (shift t m 0) ≡ Some a) (sym n) (shift_type v bs types t w.1.1 ∙ w.1.0);
          })
      by (inr (inr l)) =
          let q : length ts ≡ length tys = o.as_many in
          let h : slice_get (tys ++ types) (i - d) ≡ Some a = sym (slice_after bs (tys ++ types) i (i - d) (omega arith)) ∙ x.1 in
          let g : slice_get types (i - d - length tys) ≡ Some a = sym (slice_after tys types (i - d) (i - d - length tys) (omega arith)) ∙ h in
          subst (IsPut v (bs ++ types) a) (sym (many_above ts d i a l))
          (bound_is v (bs ++ (tys ++ types)) (bs ++ types) (i - length ts) a x.0.0 x.2 (slice_after bs types (i - length ts) (i - d - length tys) (omega arith) ∙ g))

  module _ (b : Tree) (x : TypedUnder v (tys ++ types) b) where
    pub open_many_typed : WellSorted (inst_many b ts) → TypedUnder v types (inst_many b ts)
    open_many_typed w = typed_at v (tys ++ types) types (instantiating_many ts).bound many_sorts (λ bs d i a n y. many_put bs d i a n y) [] 0 b refl x w

    pub open_many_type : type_of (inst_many b ts) ≡ type_of b
    open_many_type = types_at v (tys ++ types) types (instantiating_many ts).bound many_sorts (λ bs d i a n y. many_put bs d i a n y) [] 0 b refl x

    pub open_many_sort : sort_of (inst_many b ts) ≡ sort_of b
    open_many_sort = sort_of-change (instantiating_many ts) many_sorts 0 b
