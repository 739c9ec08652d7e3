-- An instance of a typed tree by closed terms of the types of its open variables is typed.
use Rattle.std.proofs.Common.{◌≡◌, ℕ, zero, suc, ◌+◌, ◌-◌, ◌<◌, ◌≤◌, ◌⊎◌, inl, inr, List, [], ◌∷◌, ◌++◌, map, length, get_or, slice_get, Option, Some, None, IsSomeAnd, subst, refl, sym, ap, ◌∙◌, arith, append_assoc}
use Rattle.std.proofs.lemmas.List.{length-append}
use Rattle.trees.specs.declared.Sort.TheVariants.{Kind, Term}
use Rattle.trees.specs.Tree.{Tree, Leaf, One, Two, Three, Head, HTyVar, HTyApp, HCell, HBound, HParam, HFun, HPred, HEq, HForall, HExists, HLet, HIf, HCase, HArm, HPatAny, HPatVar, HPatCon, HPatAlias, head_of, binders_over, pat_vars, loose}
use Rattle.trees.specs.Binding.{change, leaf_by, inst, instantiating_many, inst_many}
use Rattle.trees.specs.Sorts.{Fits, sort_of, yield_type, type_of, top_type, two_type, IsList}
use Rattle.trees.specs.Facts.{PutsSorts}
use Rattle.trees.specs.laws.Sorts.{sort_of-change, one_fits, two_fits, three_fits}
use Rattle.trees.proofs.Types.{OnlyTypes, only_types, AreKinds, three_no_cell, one_no_cell}
use Rattle.trees.proofs.Above.{types_left}
use Rattle.trees.proofs.Laws.{shift_closed}
use Rattle.trees.proofs.Many.{many_below, many_at, many_above, cases_many, inst_is_many}
use Rattle.tasks.specs.Task.{SymbolTree}
use Rattle.tasks.specs.Vocabulary.{Vocabulary}
use Rattle.tasks.specs.Typing.{members, entry, IsTypeSymbol, IsUse, HasResult, option_list, three_pattern, pattern_types, bound_types, BranchesFit, first_body, OneTyped, TwoTyped, ThreeTyped, TypedUnder}
use Rattle.tasks.proofs.Closing.{typed_sorted, typed_closed}
use Rattle.tasks.proofs.Counts.{bound_count}
use Rattle.tasks.specs.typed_trees.instances.Instances.{IsTermOf, AreFor}
use Rattle.tasks.proofs.TypeInstances.{further, one_further, typed_further}
use Rattle.tasks.proofs.KeptInstances.{slot as within}

-- ---- places of lists
pub present : (xs : List Tree) (i : ℕ) → i < length xs → (x : Tree) × (slice_get xs i ≡ Some x)
present [] i l = absurd (omega arith)
present (x ∷ xs) zero l = (x, refl)
present (x ∷ xs) (suc i) l = present xs i (omega arith)

slice_left : (xs ys : List Tree) (i : ℕ) (x : Tree) → i < length xs → slice_get (xs ++ ys) i ≡ Some x → slice_get xs i ≡ Some x
slice_left [] ys i x l h = absurd (omega arith)
slice_left (y ∷ xs) ys zero x l h = h
slice_left (y ∷ xs) ys (suc i) x l h = slice_left xs ys i x (omega arith) h

slice_right : (xs ys : List Tree) (i j : ℕ) (x : Tree) → i ≡ length xs + j → slice_get (xs ++ ys) i ≡ Some x → slice_get ys j ≡ Some x
slice_right [] ys i j x q h = let n : i ≡ j = omega arith in subst (λ (k : ℕ). slice_get ys k ≡ Some x) n h
slice_right (y ∷ xs) ys zero j x q h = absurd (omega arith)
slice_right (y ∷ xs) ys (suc i) j x q h = slice_right xs ys i j x (omega arith) h

-- ---- what is typed stays typed under more binders; a type is typed under any

kind_one : (t : Vocabulary) (types more : List Tree) (h : Head) (a : Tree) (n : ℕ) → h ≡ HTyApp n → OneTyped t types h a → OneTyped t more h a
kind_one t types more (HBound i) a n q x = absurd (cc)
kind_one t types more (HTyApp k) a n q x = x
kind_one t types more _ a n q x = tt

cell_binds : (h : Head) (a : Tree) → h ≡ HCell → bound_types h a ≡ []
cell_binds HForall a q = absurd (cc)
cell_binds HExists a q = absurd (cc)
cell_binds HLet a q = absurd (cc)
cell_binds HArm a q = absurd (cc)
cell_binds _ a q = refl

only_typed : (t : Vocabulary) (types more : List Tree) (e : Tree) → OnlyTypes e → TypedUnder t types e → TypedUnder t more e
only_typed t types more (Leaf h) o x = x
only_typed t types more (One h a) o x = (x.0, kind_one t types more h a o.0.0 o.0.1 x.1, only_typed t types more a o.1 x.2)
only_typed t types more (Two h a b) o x = (x.0, x.1, only_typed t types more a o.1 x.2, only_typed t (bound_types h a ++ types) (bound_types h a ++ more) b o.2 x.3)
only_typed t types more (Three h a b c) o x = absurd o

pub kind_typed : (t : Vocabulary) (types more : List Tree) (e : Tree) → sort_of e ≡ Kind → TypedUnder t types e → TypedUnder t more e
kind_typed t types more e k x = only_typed t types more e (only_types e (typed_sorted t types e x) (inl k)) x

-- ---- a term has no members, binds nothing, and is no list of branches
some_top : (h : Head) (o : Option Tree) (ty : Tree) → top_type h o ≡ Some ty → o ≡ Some ty
some_top HCell o ty q = absurd (cc)
some_top HArm o ty q = absurd (cc)
some_top _ o ty q = q

term_no_members : (e : Tree) → sort_of e ≡ Term → members e ≡ []
term_no_members (Leaf h) k = refl
term_no_members (One h a) k = refl
term_no_members (Two HCell a b) k = absurd (cc)
term_no_members (Two _ a b) k = refl
term_no_members (Three h a b c) k = refl

term_no_variables : (e : Tree) → sort_of e ≡ Term → pattern_types e ≡ []
term_no_variables (Leaf h) k = refl
term_no_variables (One HPatVar a) k = absurd (cc)
term_no_variables (One HPatAlias a) k = absurd (cc)
term_no_variables (One _ a) k = refl
term_no_variables (Two HCell a b) k = absurd (cc)
term_no_variables (Two _ a b) k = refl
term_no_variables (Three (HPatCon n) a b c) k = absurd (cc)
term_no_variables (Three _ a b c) k = refl

term_no_branches : (type : Option Tree) (first e : Tree) → sort_of e ≡ Term → BranchesFit type first e
term_no_branches type first (Leaf h) k = tt
term_no_branches type first (One h a) k = tt
term_no_branches type first (Two HCell a b) k = absurd (cc)
term_no_branches type first (Two _ a b) k = tt
term_no_branches type first (Three h a b c) k = tt

some_kept : (o : Option SymbolTree) (P Q : SymbolTree → Type 0) → ((e : SymbolTree) → P e → Q e) → IsSomeAnd o P → IsSomeAnd o Q
some_kept None P Q f h = h
some_kept (Some e) P Q f h = f e h

-- branches are compared with the first by sort and type
branches_like : (type : Option Tree) (first other b : Tree) → sort_of other ≡ sort_of first → type_of other ≡ type_of first → BranchesFit type first b → BranchesFit type other b
branches_like type first other (Leaf h) s q x = tt
branches_like type first other (One h a) s q x = tt
branches_like type first other (Two HCell (Two HArm p e) bs) s q x = ((x.0.0, x.0.1 ∙ sym s, x.0.2 ∙ sym q), branches_like type first other bs s q x.1)
branches_like type first other (Two HCell b bs) s q x = absurd x.0
branches_like type first other (Two _ a b) s q x = tt
branches_like type first other (Three h a b c) s q x = tt

-- a term that is put in for a variable of this type, below binders of these types
record IsPut (v : Vocabulary) (bs : List Tree) (ty t : Tree) : Type 0 where
  sort : sort_of t ≡ Term
  typed : TypedUnder v bs t
  type : type_of t ≡ Some ty

module _ (v : Vocabulary) (types env : List Tree) (good : AreFor v types env) where
  abbrev at : ℕ → Tree → Tree
  at d e = change (instantiating_many env) d e

  -- the terms
  term_of : (k : ℕ) (e : Tree) → k < length env → (ty : Tree) × IsTermOf v ty (get_or env k e)
  term_of k e l =
      let n : length env ≡ length types = good.as_many in
      let p = present types (length types - (k + 1)) (omega arith) in
      (p.0, good.each (length types - (k + 1)) k p.0 e p.1 (omega arith))

  term_closed : (k : ℕ) (e : Tree) → k < length env → loose (get_or env k e) ≡ 0
  term_closed k e l = let t = term_of k e l in omega (arith, typed_closed v [] (get_or env k e) t.1.typed)

  pub puts : PutsSorts (instantiating_many env)
  puts = record { bound = λ d i ty. by d i ty (cases_many i d (length env)); param = λ _ _ _. refl; ty_var = λ _. refl }
    where
      by : (d i : ℕ) (ty : Tree) → (i < d) ⊎ (((k : ℕ) × ((d ≤ i) × (i + k + 1 ≡ d + length env))) ⊎ (d + length env ≤ i)) → sort_of ((instantiating_many env).bound d i ty) ≡ Term
      by d i ty (inl l) = ap sort_of (many_below env d i ty l)
      by d i ty (inr (inl k)) =
          let l : k.0 < length env = omega (arith, k.1.0, k.1.1) in
          ap sort_of (many_at env d i k.0 ty k.1.0 k.1.1 ∙ shift_closed (get_or env k.0 ty) d 0 (omega (arith, term_closed k.0 ty l))) ∙ (term_of k.0 ty l).1.sort
      by d i ty (inr (inr l)) = ap sort_of (many_above env d i ty l)

  sort_at : (d : ℕ) (e : Tree) → sort_of (at d e) ≡ sort_of e
  sort_at d e = sort_of-change (instantiating_many env) puts d e

  kinds_at : (d : ℕ) (ts : List Tree) (e : Tree) → TypedUnder v ts e → AreKinds e → at d e ≡ e
  kinds_at d ts e x k = types_left (instantiating_many env) (λ _. refl) d e (only_types e (typed_sorted v ts e x) k)

  leaf_at : (h : Head) → leaf_by (instantiating_many env) h ≡ Leaf h
  leaf_at (HTyVar j) = refl
  leaf_at _ = refl

  -- a variable
  bound_put : (bs : List Tree) (d i : ℕ) (a : Tree) → d ≡ length bs → TypedUnder v (bs ++ types) (One (HBound i) a) → IsPut v bs a ((instantiating_many env).bound d i a)
  bound_put bs d i a n x = by (cases_many i d (length env))
    where
      by : (i < d) ⊎ (((k : ℕ) × ((d ≤ i) × (i + k + 1 ≡ d + length env))) ⊎ (d + length env ≤ i)) → IsPut v bs a ((instantiating_many env).bound d i a)
      by (inl l) = subst (IsPut v bs a) (sym (many_below env d i a l)) (record {
        sort = refl;
        typed = (x.0, slice_left bs types i a (omega arith) x.1, kind_typed v (bs ++ types) bs a x.0.0 x.2);
        type = refl;
      })
      by (inr (inl k)) =
          let l : k.0 < length env = omega (arith, k.1.0, k.1.1) in
          let s : slice_get types (i - d) ≡ Some a = slice_right bs types i (i - d) a (omega (arith, k.1.0)) x.1 in
          let t = good.each (i - d) k.0 a a s (omega (arith, k.1.0, k.1.1)) in
          let q : (instantiating_many env).bound d i a ≡ get_or env k.0 a = many_at env d i k.0 a k.1.0 k.1.1 ∙ shift_closed (get_or env k.0 a) d 0 (omega (arith, term_closed k.0 a l)) in
          subst (IsPut v bs a) (sym q) (record { sort = t.sort; typed = typed_further v [] bs (get_or env k.0 a) t.typed; type = t.type })
      by (inr (inr l)) = absurd (omega (arith, good.as_many, length-append bs types, within (bs ++ types) i a x.1))

  put_at : (bs : List Tree) (d i : ℕ) (a : Tree) → d ≡ length bs → TypedUnder v (bs ++ types) (One (HBound i) a) → IsPut v bs a (at d (One (HBound i) a))
  put_at bs d i a n x =
      subst (λ (z : Tree). IsPut v bs a ((instantiating_many env).bound d i z)) (sym (kinds_at d (bs ++ types) a x.2 (inl x.0.0))) (bound_put bs d i a n x)

  -- what is under the binders of an operator
  deeper : (bs : List Tree) (h : Head) (a b : Tree) → TypedUnder v (bs ++ types) (Two h a b) → TypedUnder v ((bound_types h a ++ bs) ++ types) b
  deeper bs h a b x = rw (append_assoc (bound_types h a) bs types) x.3

  depth : (bs : List Tree) (d : ℕ) (h : Head) (a b : Tree) → d ≡ length bs → TypedUnder v (bs ++ types) (Two h a b) → d + binders_over h a ≡ length (bound_types h a ++ bs)
  depth bs d h a b n x = omega (arith, length-append (bound_types h a) bs, bound_count h a b x.0 (typed_sorted v (bs ++ types) a x.2))

  -- types of terms
  type_at : (bs : List Tree) (d : ℕ) (e : Tree) → d ≡ length bs → TypedUnder v (bs ++ types) e → (yield_type (at d e) ≡ yield_type e) × (type_of (at d e) ≡ type_of e)
  type_at bs d (Leaf h) n x = (ap yield_type (leaf_at h), ap type_of (leaf_at h))
  type_at bs d (One (HBound i) a) n x = let p = put_at bs d i a n x in (some_top (head_of (at d (One (HBound i) a))) (yield_type (at d (One (HBound i) a))) a p.type, p.type)
  type_at bs d (One (HParam m) a) n x = let q : at d a ≡ a = kinds_at d (bs ++ types) a x.2 (inl x.0) in (ap Some q, ap Some q)
  type_at bs d (One HPatAny a) n x = let q : at d a ≡ a = kinds_at d (bs ++ types) a x.2 (inl x.0) in (ap Some q, ap Some q)
  type_at bs d (One HPatVar a) n x = let q : at d a ≡ a = kinds_at d (bs ++ types) a x.2 (inl x.0) in (ap Some q, ap Some q)
  type_at bs d (One HPatAlias a) n x = let q = (type_at bs d a n x.2).0 in (q, q)
  type_at bs d (One _ a) n x = (refl, refl)
  type_at bs d (Two h a b) n x =
      let l = (type_at bs d a n x.2).0 in
      let r = (type_at (bound_types h a ++ bs) (d + binders_over h a) b (depth bs d h a b n x) (deeper bs h a b x)).0 in
      let q : two_type h (yield_type (at d a)) (yield_type (at (d + binders_over h a) b)) ≡ two_type h (yield_type a) (yield_type b) = cc in
      (q, ap (top_type h) q)
  type_at bs d (Three (HFun k) a b c) n x = let q : at d c ≡ c = kinds_at d (bs ++ types) c x.4 (inl x.0.2) in (ap Some q, ap Some q)
  type_at bs d (Three (HPatCon k) a b c) n x = let q : at d c ≡ c = kinds_at d (bs ++ types) c x.4 (inl x.0.2) in (ap Some q, ap Some q)
  type_at bs d (Three HIf a b c) n x = let q = (type_at bs d b n x.3).0 in (q, q)
  type_at bs d (Three _ a b c) n x = absurd x.0

  types_at : (bs : List Tree) (d : ℕ) (e : Tree) → d ≡ length bs → TypedUnder v (bs ++ types) e → type_of (at d e) ≡ type_of e
  types_at bs d e n x = (type_at bs d e n x).1

  -- variables of patterns
  variables_at : (bs : List Tree) (d : ℕ) (e : Tree) → d ≡ length bs → TypedUnder v (bs ++ types) e → pattern_types (at d e) ≡ pattern_types e
  variables_at bs d (Leaf h) n x = ap pattern_types (leaf_at h)
  variables_at bs d (One (HBound i) a) n x = term_no_variables (at d (One (HBound i) a)) (put_at bs d i a n x).sort
  variables_at bs d (One (HParam m) a) n x = refl
  variables_at bs d (One HPatVar a) n x = let q : at d a ≡ a = kinds_at d (bs ++ types) a x.2 (inl x.0) in ap (λ (z : Tree). z ∷ []) q
  variables_at bs d (One HPatAlias a) n x = let q = types_at bs d a n x.2 in let r = variables_at bs d a n x.2 in cc
  variables_at bs d (One _ a) n x = refl
  variables_at bs d (Two h a b) n x =
      let l = variables_at bs d a n x.2 in
      let r = variables_at (bound_types h a ++ bs) (d + binders_over h a) b (depth bs d h a b n x) (deeper bs h a b x) in
      cc
  variables_at bs d (Three h a b c) n x = ap (three_pattern h) (variables_at bs d b n x.3)

  bound_at : (bs : List Tree) (d : ℕ) (h : Head) (a b : Tree) → d ≡ length bs → TypedUnder v (bs ++ types) (Two h a b) → bound_types h (at d a) ≡ bound_types h a
  bound_at bs d HForall a b n x = ap (λ (z : Tree). z ∷ []) (kinds_at d (bs ++ types) a x.2 (inl x.0.0.0))
  bound_at bs d HExists a b n x = ap (λ (z : Tree). z ∷ []) (kinds_at d (bs ++ types) a x.2 (inl x.0.0.0))
  bound_at bs d HLet a b n x = ap option_list (types_at bs d a n x.2)
  bound_at bs d HArm a b n x = variables_at bs d a n x.2
  bound_at bs d _ a b n x = refl

  -- types of the members of a list
  members_at : (bs : List Tree) (d : ℕ) (e : Tree) → d ≡ length bs → TypedUnder v (bs ++ types) e → map type_of (members (at d e)) ≡ map type_of (members e)
  members_at bs d (Leaf h) n x = ap (λ (z : Tree). map type_of (members z)) (leaf_at h)
  members_at bs d (One (HBound i) a) n x = ap (map type_of) (term_no_members (at d (One (HBound i) a)) (put_at bs d i a n x).sort)
  members_at bs d (One (HParam m) a) n x = refl
  members_at bs d (One _ a) n x = refl
  members_at bs d (Two HCell a b) n x =
      let l = types_at bs d a n x.2 in
      let r = members_at bs (d + 0) b (omega arith) x.3 in
      cc
  members_at bs d (Two _ a b) n x = refl
  members_at bs d (Three h a b c) n x = refl

  -- branches
  branches_at : (bs : List Tree) (d : ℕ) (type : Option Tree) (first b : Tree) → d ≡ length bs → TypedUnder v (bs ++ types) b → BranchesFit type first b → BranchesFit type first (at d b)
  branches_at bs d type first (Leaf h) n x y = subst (BranchesFit type first) (sym (leaf_at h)) tt
  branches_at bs d type first (One (HBound i) a) n x y = term_no_branches type first (at d (One (HBound i) a)) (put_at bs d i a n x).sort
  branches_at bs d type first (One (HParam m) a) n x y = tt
  branches_at bs d type first (One _ a) n x y = tt
  branches_at bs d type first (Two HCell (Two HArm p e) b) n x y = (
    (
      types_at bs d p n x.2.2 ∙ y.0.0,
      sort_at (d + pat_vars p) e ∙ y.0.1,
      types_at (pattern_types p ++ bs) (d + pat_vars p) e (depth bs d HArm p e n x.2) (deeper bs HArm p e x.2) ∙ y.0.2,
    ),
    branches_at bs (d + 0) type first b (omega arith) x.3 y.1,
  )
  branches_at bs d type first (Two HCell a b) n x y = absurd y.0
  branches_at bs d type first (Two _ a b) n x y = tt
  branches_at bs d type first (Three h a b c) n x y = tt

  -- the body of the first branch
  first_at : (bs : List Tree) (d : ℕ) (type : Option Tree) (first b : Tree) → d ≡ length bs → head_of b ≡ HCell → TypedUnder v (bs ++ types) b → BranchesFit type first b
      → (sort_of (first_body (at d b)) ≡ sort_of (first_body b)) × (type_of (first_body (at d b)) ≡ type_of (first_body b))
  first_at bs d type first (Leaf h) n q x y = let l : first_body (at d (Leaf h)) ≡ Leaf h = ap first_body (leaf_at h) in (ap sort_of l, ap type_of l)
  first_at bs d type first (One h a) n q x y = absurd (one_no_cell h a x.0 q)
  first_at bs d type first (Two HCell (Two HArm p e) b) n q x y =
      (sort_at (d + pat_vars p) e, types_at (pattern_types p ++ bs) (d + pat_vars p) e (depth bs d HArm p e n x.2) (deeper bs HArm p e x.2))
  first_at bs d type first (Two HCell a b) n q x y = absurd y.0
  first_at bs d type first (Two _ a b) n q x y = absurd (cc)
  first_at bs d type first (Three h a b c) n q x y = absurd (three_no_cell h a b c x.0 q)

  -- a symbol at types
  use_at : (bs : List Tree) (d c : ℕ) (e : SymbolTree) (a b : Tree) → c ≡ length bs → TypedUnder v (bs ++ types) a → IsList Kind a → TypedUnder v (bs ++ types) b → IsUse e a b → IsUse e (at d a) (at c b)
  use_at bs d c e a b n x k y u =
      let q : at d a ≡ a = kinds_at d (bs ++ types) a x (inr k) in
      subst (λ (z : Tree). IsUse e z (at c b)) (sym q) (record { as_many = u.as_many; fit = members_at bs c b n y ∙ u.fit })

  -- each operator
  one_typed : (bs : List Tree) (d : ℕ) (h : Head) (a : Tree) → d ≡ length bs → TypedUnder v (bs ++ types) (One h a) → TypedUnder v bs (at d a) → TypedUnder v bs (at d (One h a))
  one_typed bs d (HBound i) a n x y = (put_at bs d i a n x).typed
  one_typed bs d (HParam m) a n x y = (one_fits (instantiating_many env) puts d (HParam m) a x.0, tt, y)
  one_typed bs d (HTyApp k) a n x y =
      let q : at d a ≡ a = kinds_at d (bs ++ types) a x.2 (inr x.0) in
      (one_fits (instantiating_many env) puts d (HTyApp k) a x.0, subst (λ (z : Tree). IsTypeSymbol v k (length (members z))) (sym q) x.1, y)
  one_typed bs d h a n x y = (one_fits (instantiating_many env) puts d h a x.0, tt, y)

  two_typed : (bs : List Tree) (d : ℕ) (h : Head) (a b : Tree) → d ≡ length bs → TypedUnder v (bs ++ types) (Two h a b) → TwoTyped v h (at d a) (at (d + binders_over h a) b)
  two_typed bs d (HPred p) a b n x = (x.1.0, some_kept (entry v p) _ _ (λ e y. (y.0, use_at bs d (d + 0) e a b (omega arith) x.2 x.0.0.0 x.3 y.1)) x.1.1)
  two_typed bs d HEq a b n x = types_at bs d a n x.2 ∙ x.1 ∙ sym (types_at bs (d + 0) b (omega arith) x.3)
  two_typed bs d HCase a b n x =
      let f = first_at bs (d + 0) (type_of a) (first_body b) b (omega arith) x.0.1 x.3 x.1 in
      subst (λ (o : Option Tree). BranchesFit o (first_body (at (d + 0) b)) (at (d + 0) b)) (sym (types_at bs d a n x.2))
      (branches_like (type_of a) (first_body b) (first_body (at (d + 0) b)) (at (d + 0) b) f.0 f.1 (branches_at bs (d + 0) (type_of a) (first_body b) b (omega arith) x.3 x.1))
  two_typed bs d _ a b n x = tt

  three_typed : (bs : List Tree) (d : ℕ) (h : Head) (a b c : Tree) → d ≡ length bs → TypedUnder v (bs ++ types) (Three h a b c) → ThreeTyped v h (at d a) (at d b) (at d c)
  three_typed bs d (HFun k) a b c n x =
      let q : at d c ≡ c = kinds_at d (bs ++ types) c x.4 (inl x.0.2) in
      let r : at d a ≡ a = kinds_at d (bs ++ types) a x.2 (inr x.0.0) in
      (x.1.0, some_kept (entry v k) _ _ (λ e y. (y.0, use_at bs d d e a b n x.2 x.0.0 x.3 y.1, subst (λ (z : Tree). HasResult e z (at d c)) (sym r) (subst (λ (z : Tree). HasResult e a z) (sym q) y.2))) x.1.1)
  three_typed bs d HIf a b c n x = types_at bs d b n x.3 ∙ x.1 ∙ sym (types_at bs d c n x.4)
  three_typed bs d (HPatCon k) a b c n x =
      let q : at d c ≡ c = kinds_at d (bs ++ types) c x.4 (inl x.0.2) in
      let r : at d a ≡ a = kinds_at d (bs ++ types) a x.2 (inr x.0.0) in
      (x.1.0, some_kept (entry v k) _ _ (λ e y. (y.0, use_at bs d d e a b n x.2 x.0.0 x.3 y.1, subst (λ (z : Tree). HasResult e z (at d c)) (sym r) (subst (λ (z : Tree). HasResult e a z) (sym q) y.2))) x.1.1)
  three_typed bs d _ a b c n x = tt

  typed_at : (bs : List Tree) (d : ℕ) (e : Tree) → d ≡ length bs → TypedUnder v (bs ++ types) e → TypedUnder v bs (at d e)
  typed_at bs d (Leaf h) n x = subst (TypedUnder v bs) (sym (leaf_at h)) x
  typed_at bs d (One h a) n x = one_typed bs d h a n x (typed_at bs d a n x.2)
  typed_at bs d (Two h a b) n x =
      let u : TypedUnder v (bound_types h a ++ bs) (at (d + binders_over h a) b) = typed_at (bound_types h a ++ bs) (d + binders_over h a) b (depth bs d h a b n x) (deeper bs h a b x) in (
        two_fits (instantiating_many env) puts d (d + binders_over h a) h a b x.0,
        two_typed bs d h a b n x,
        typed_at bs d a n x.2,
        subst (λ (l : List Tree). TypedUnder v (l ++ bs) (at (d + binders_over h a) b)) (sym (bound_at bs d h a b n x)) u,
      )
  typed_at bs d (Three h a b c) n x =
      (three_fits (instantiating_many env) puts d h a b c x.0, three_typed bs d h a b c n x, typed_at bs d a n x.2, typed_at bs d b n x.3, typed_at bs d c n x.4)

  -- closed terms put in for all open variables
  pub many_typed : (e : Tree) → TypedUnder v types e → TypedUnder v [] (inst_many e env)
  many_typed e x = typed_at [] 0 e refl x

  pub many_sort : (e : Tree) → sort_of (inst_many e env) ≡ sort_of e
  many_sort e = sort_at 0 e

  pub many_type : (e : Tree) → TypedUnder v types e → type_of (inst_many e env) ≡ type_of e
  many_type e x = types_at [] 0 e refl x

-- one term
pub one_for : (v : Vocabulary) (ty t : Tree) → IsTermOf v ty t → AreFor v (ty ∷ []) (t ∷ [])
one_for v ty t o = record { as_many = refl; each = by }
  where
    by : (i k : ℕ) (ty' e : Tree) → slice_get (ty ∷ []) i ≡ Some ty' → i + k + 1 ≡ 1 → IsTermOf v ty' (get_or (t ∷ []) k e)
    by zero zero ty' e q n = let r : ty ≡ ty' = cc in subst (λ (z : Tree). IsTermOf v z t) r o
    by zero (suc k) ty' e q n = absurd (omega arith)
    by (suc i) k ty' e q n = absurd (omega arith)

module _ (v : Vocabulary) (ty t : Tree) (o : IsTermOf v ty t) (e : Tree) where
  pub inst_typed : TypedUnder v (ty ∷ []) e → TypedUnder v [] (inst e t)
  inst_typed x = subst (TypedUnder v []) (inst_is_many e t) (many_typed v (ty ∷ []) (t ∷ []) (one_for v ty t o) e x)

  pub inst_sort : sort_of (inst e t) ≡ sort_of e
  inst_sort = ap sort_of (sym (inst_is_many e t)) ∙ many_sort v (ty ∷ []) (t ∷ []) (one_for v ty t o) e
