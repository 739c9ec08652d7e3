-- A tree with its variables in another order, of the same types: it stays well typed.
use Rattle.std.proofs.Common.{◌≡◌, ℕ, ◌+◌, ◌-◌, ◌<◌, ◌≤◌, zero, suc, Bool, true, false, cond, nat_lt, List, [], ◌∷◌, ◌++◌, map, length, get_or, slice_get, Option, Some, None, IsSomeAnd, inl, inr, refl, sym, ap, ◌∙◌, arith, append_assoc}
use Rattle.std.proofs.lemmas.List.{length-append}
use Rattle.elab_groups.specs.trees.declared.Sort.TheVariants.{Kind}
use Rattle.elab_groups.specs.trees.Tree.{Tree, Leaf, One, Two, Three, Head, HTyVar, HTyApp, HCell, HBound, HParam, HFun, HPred, HEq, HForall, HExists, HLet, HIf, HCase, HArm, HPatAny, HPatVar, HPatCon, HPatAlias, head_of, binders_over}
use Rattle.elab_groups.specs.trees.Sorts.{Fits, WellSorted, IsList, sort_of, yield_type, type_of, top_type}
use Rattle.elab_groups.specs.trees.Binding.{change, one_by}
use Rattle.elab_groups.specs.trees.Facts.{IndicesFit}
use Rattle.elab_groups.proofs.trees.Types.{OnlyTypes, only_types}
use Rattle.elab_groups.specs.trees.laws.Sorts.{sort_of-change, one_fits, two_fits, three_fits}
use Rattle.elab_groups.specs.tasks.Task.{SymbolTree}
use Rattle.elab_groups.specs.tasks.Vocabulary.{Vocabulary}
use Rattle.elab_groups.specs.tasks.Typing.{members, entry, IsUse, option_list, pattern_types, bound_types, BranchFits, BranchesFit, first_body, TwoTyped, ThreeTyped}
use Rattle.elab_groups.proofs.tasks.Closing.{typed_sorted}
use Rattle.elab_groups.proofs.tasks.Counts.{bound_count}
use Rattle.elab_groups.specs.open_types.Patterns.{reordering}
use Rattle.elab_groups.specs.open_types.Reordered.{sorts_reordering}
use Rattle.elaboration_laws.proofs.Over.{IsGood}
use Rattle.elab_groups.proofs.tasks.TypeInstances.{further}
use Rattle.elab_groups.proofs.plain_laws.Lists.{got_left as first_part}

module _ (places : List ℕ) where
  abbrev pub at : ℕ → Tree → Tree
  at d e = change (reordering places) d e

  -- ---- types stay
  pub leaf_at : (d : ℕ) (h : Head) → at d (Leaf h) ≡ Leaf h
  leaf_at d (HTyVar j) = refl
  leaf_at d _ = refl

  types_stay : (d : ℕ) (e : Tree) → OnlyTypes e → at d e ≡ e
  types_stay d (Leaf h) o = leaf_at d h
  types_stay d (One h a) o = rw o.0.1 (ap (One (HTyApp o.0.0)) (types_stay d a o.1))
  types_stay d (Two h a b) o = cc (types_stay d a o.1, types_stay (d + binders_over h a) b o.2)
  types_stay d (Three h a b c) o = absurd o

  pub kind_stays : (d : ℕ) (e : Tree) → WellSorted e → sort_of e ≡ Kind → at d e ≡ e
  kind_stays d e w k = types_stay d e (only_types e w (inl k))

  kinds_stay : (d : ℕ) (e : Tree) → WellSorted e → IsList Kind e → at d e ≡ e
  kinds_stay d e w k = types_stay d e (only_types e w (inr k))

  pub sort_at : (d : ℕ) (e : Tree) → sort_of (at d e) ≡ sort_of e
  sort_at d e = sort_of-change (reordering places) (sorts_reordering places) d e

  -- ---- types of terms
  yield_at : (d : ℕ) (e : Tree) → WellSorted e → yield_type (at d e) ≡ yield_type e
  yield_at d (Leaf h) w = ap yield_type (leaf_at d h)
  yield_at d (One (HBound i) a) w = ap (λ (x : Tree). Some x) (kind_stays d a w.1 w.0.0)
  yield_at d (One (HParam n) a) w = ap (λ (x : Tree). Some x) (kind_stays d a w.1 w.0)
  yield_at d (One HPatAny a) w = ap (λ (x : Tree). Some x) (kind_stays d a w.1 w.0)
  yield_at d (One HPatVar a) w = ap (λ (x : Tree). Some x) (kind_stays d a w.1 w.0)
  yield_at d (One HPatAlias a) w = yield_at d a w.1
  yield_at d (One _ a) w = refl
  yield_at d (Two HCell a b) w = yield_at d a w.1
  yield_at d (Two HLet a b) w = yield_at (d + binders_over HLet a) b w.2
  yield_at d (Two HCase a b) w = yield_at (d + binders_over HCase a) b w.2
  yield_at d (Two HArm a b) w = yield_at (d + binders_over HArm a) b w.2
  yield_at d (Two _ a b) w = refl
  yield_at d (Three (HFun f) a b c) w = ap (λ (x : Tree). Some x) (kind_stays d c w.3 w.0.2)
  yield_at d (Three HIf a b c) w = yield_at d b w.2
  yield_at d (Three (HPatCon k) a b c) w = ap (λ (x : Tree). Some x) (kind_stays d c w.3 w.0.2)
  yield_at d (Three _ a b c) w = absurd w.0

  one_top : (d : ℕ) (h : Head) (a : Tree) (o : Option Tree) → top_type (head_of (one_by (reordering places) d h a)) o ≡ top_type h o
  one_top d (HBound i) a o = refl
  one_top d (HParam n) a o = refl
  one_top d _ a o = refl

  pub type_at : (d : ℕ) (e : Tree) → WellSorted e → type_of (at d e) ≡ type_of e
  type_at d (Leaf h) w = ap type_of (leaf_at d h)
  type_at d (One h a) w = ap (top_type (head_of (at d (One h a)))) (yield_at d (One h a) w) ∙ one_top d h (at d a) (yield_type (One h a))
  type_at d (Two h a b) w = ap (top_type h) (yield_at d (Two h a b) w)
  type_at d (Three h a b c) w = ap (top_type h) (yield_at d (Three h a b c) w)

  -- ---- types of members, and of variables of patterns
  one_no_members : (d : ℕ) (h : Head) (a : Tree) → members (one_by (reordering places) d h a) ≡ []
  one_no_members d (HBound i) a = refl
  one_no_members d (HParam n) a = refl
  one_no_members d _ a = refl

  members_at : (d : ℕ) (e : Tree) → WellSorted e → map type_of (members (at d e)) ≡ map type_of (members e)
  members_at d (Leaf h) w = ap (λ (x : Tree). map type_of (members x)) (leaf_at d h)
  members_at d (One h a) w = ap (map type_of) (one_no_members d h (at d a))
  members_at d (Two HCell a b) w = cc (type_at d a w.1, members_at (d + binders_over HCell a) b w.2)
  members_at d (Two _ a b) w = refl
  members_at d (Three h a b c) w = refl

  variables_at : (d : ℕ) (e : Tree) → WellSorted e → pattern_types (at d e) ≡ pattern_types e
  variables_at d (Leaf h) w = ap pattern_types (leaf_at d h)
  variables_at d (One (HBound i) a) w = refl
  variables_at d (One (HParam n) a) w = refl
  variables_at d (One HPatVar a) w = ap (λ (x : Tree). x ∷ []) (kind_stays d a w.1 w.0)
  variables_at d (One HPatAlias a) w = cc (type_at d a w.1, variables_at d a w.1)
  variables_at d (One _ a) w = refl
  variables_at d (Two HCell a b) w = cc (variables_at d a w.1, variables_at (d + binders_over HCell a) b w.2)
  variables_at d (Two _ a b) w = refl
  variables_at d (Three (HPatCon k) a b c) w = variables_at d b w.2
  variables_at d (Three _ a b c) w = refl

  bound_at : (d : ℕ) (h : Head) (a b : Tree) → WellSorted a → Fits (Two h a b) → bound_types h (at d a) ≡ bound_types h a
  bound_at d HForall a b w f = ap (λ (x : Tree). x ∷ []) (kind_stays d a w f.0.0)
  bound_at d HExists a b w f = ap (λ (x : Tree). x ∷ []) (kind_stays d a w f.0.0)
  bound_at d HLet a b w f = ap option_list (type_at d a w)
  bound_at d HArm a b w f = variables_at d a w
  bound_at d _ a b w f = refl

  -- ---- branches
  record IsLike (a b : Tree) : Type 0 where
    sort : sort_of a ≡ sort_of b
    type : type_of a ≡ type_of b

  branch_at : (d : ℕ) (t u : Option Tree) (first first' b : Tree) → WellSorted b → u ≡ t → IsLike first' first → BranchFits t first b → BranchFits u first' (at d b)
  branch_at d t u first first' (Two HArm p e) w q l x =
      (type_at d p w.1 ∙ x.0 ∙ sym q, sort_at (d + binders_over HArm p) e ∙ x.1 ∙ sym l.sort, type_at (d + binders_over HArm p) e w.2 ∙ x.2 ∙ sym l.type)
  branch_at d t u first first' _ w q l x = absurd x

  leaf_branches : (d : ℕ) (t : Option Tree) (first : Tree) (h : Head) → BranchesFit t first (at d (Leaf h))
  leaf_branches d t first h = rw (leaf_at d h) tt

  one_branches : (d : ℕ) (t : Option Tree) (first : Tree) (h : Head) (a : Tree) → BranchesFit t first (one_by (reordering places) d h a)
  one_branches d t first (HBound i) a = tt
  one_branches d t first (HParam n) a = tt
  one_branches d t first _ a = tt

  branches_at : (d : ℕ) (t u : Option Tree) (first first' b : Tree) → WellSorted b → u ≡ t → IsLike first' first → BranchesFit t first b → BranchesFit u first' (at d b)
  branches_at d t u first first' (Leaf h) w q l x = leaf_branches d u first' h
  branches_at d t u first first' (One h a) w q l x = one_branches d u first' h (at d a)
  branches_at d t u first first' (Two HCell b bs) w q l x = (branch_at d t u first first' b w.1 q l x.0, branches_at (d + binders_over HCell b) t u first first' bs w.2 q l x.1)
  branches_at d t u first first' (Two _ a b) w q l x = tt
  branches_at d t u first first' (Three h a b c) w q l x = tt

  first_branch : (d : ℕ) (t : Option Tree) (first b bs : Tree) → WellSorted (Two HCell b bs) → BranchFits t first b → IsLike (first_body (at d (Two HCell b bs))) (first_body (Two HCell b bs))
  first_branch d t first (Two HArm p e) bs w x = record { sort = sort_at (d + binders_over HArm p) e; type = type_at (d + binders_over HArm p) e w.1.2 }
  first_branch d t first _ bs w x = absurd x

  first_like : (d : ℕ) (t : Option Tree) (first b : Tree) → WellSorted b → head_of b ≡ HCell → BranchesFit t first b → IsLike (first_body (at d b)) (first_body b)
  first_like d t first (Leaf h) w q x = rw (leaf_at d h) (leaf_like h q)
    where
      leaf_like : (h : Head) → h ≡ HCell → IsLike (first_body (Leaf h)) (first_body (Leaf h))
      leaf_like h q = record { sort = refl; type = refl }
  first_like d t first (One h a) w q x = absurd (no_cell h a w.0 q)
    where
      no_cell : (h : Head) (a : Tree) → Fits (One h a) → h ≡ HCell → ⊥
      no_cell HCell a f q = f
      no_cell _ a f q = cc
  first_like d t first (Two HCell b bs) w q x = first_branch d t first b bs w x.0
  first_like d t first (Two _ a b) w q x = absurd (cc)
  first_like d t first (Three h a b c) w q x = absurd (no_cell h a b c w.0 q)
    where
      no_cell : (h : Head) (a b c : Tree) → Fits (Three h a b c) → h ≡ HCell → ⊥
      no_cell HCell a b c f q = f
      no_cell _ a b c f q = cc

  -- ---- uses
  use_at : (d : ℕ) (e : SymbolTree) (types args : Tree) → WellSorted types → IsList Kind types → WellSorted args → IsUse e types args → IsUse e (at d types) (at d args)
  use_at d e types args w k z u = rw (kinds_stay d types w k) (record { as_many = u.as_many; fit = members_at d args z ∙ u.fit })

  some_kept : (o : Option SymbolTree) (P Q : SymbolTree → Type 0) → ((e : SymbolTree) → P e → Q e) → IsSomeAnd o P → IsSomeAnd o Q
  some_kept None P Q f h = h
  some_kept (Some e) P Q f h = f e h

  module _ (v : Vocabulary) where
    two_typed : (d c : ℕ) (h : Head) (a b : Tree) → Fits (Two h a b) → WellSorted a → WellSorted b → TwoTyped v h a b → TwoTyped v h (at d a) (at c b)
    two_typed d c (HPred p) a b f x y t = (t.0, some_kept (entry v p) _ _ (λ e z. (z.0, rw (kinds_stay d a x f.0.0) (record { as_many = z.1.as_many; fit = members_at c b y ∙ z.1.fit }))) t.1)
    two_typed d c HEq a b f x y t = type_at d a x ∙ t ∙ sym (type_at c b y)
    two_typed d c HCase a b f x y t = branches_at c (type_of a) (type_of (at d a)) (first_body b) (first_body (at c b)) b y (type_at d a x) (first_like c (type_of a) (first_body b) b y f.1 t) t
    two_typed d c _ a b f x y t = tt

    three_typed : (d : ℕ) (h : Head) (a b c : Tree) → Fits (Three h a b c) → WellSorted a → WellSorted b → WellSorted c → ThreeTyped v h a b c → ThreeTyped v h (at d a) (at d b) (at d c)
    three_typed d (HFun s) a b c f x y z t =
        (t.0, some_kept (entry v s) _ _ (λ e u. (u.0, use_at d e a b x f.0 y u.1, rw (kinds_stay d a x f.0, kind_stays d c z f.2) u.2)) t.1)
    three_typed d HIf a b c f x y z t = type_at d b y ∙ t ∙ sym (type_at d c z)
    three_typed d (HPatCon s) a b c f x y z t =
        (t.0, some_kept (entry v s) _ _ (λ e u. (u.0, use_at d e a b x f.0 y u.1, rw (kinds_stay d a x f.0, kind_stays d c z f.2) u.2)) t.1)
    three_typed d _ a b c f x y z t = tt

-- ---- the types of variables by their places
in_front : (xs ys zs : List Tree) (i : ℕ) → i < length xs → slice_get (xs ++ ys) i ≡ slice_get (xs ++ zs) i
in_front [] ys zs i l = absurd (omega arith)
in_front (x ∷ xs) ys zs zero l = refl
in_front (x ∷ xs) ys zs (suc i) l = in_front xs ys zs i (omega arith)

following : (xs ys : List Tree) (i k : ℕ) → i ≡ length xs + k → slice_get (xs ++ ys) i ≡ slice_get ys k
following [] ys i k q = ap (slice_get ys) (omega (arith, q))
following (x ∷ xs) ys zero k q = absurd (omega (arith, q))
following (x ∷ xs) ys (suc i) k q = following xs ys i k (omega (arith, q))

-- under variables of the types `xs`, which those of the types `ys` take the places of
module _ (v : Vocabulary) (places : List ℕ) (xs ys zs : List Tree) (count : length places ≡ length xs) (counts : length ys ≡ length xs)
    (same : (i : ℕ) (a : Tree) → slice_get xs i ≡ Some a → slice_get ys (get_or places i 0) ≡ Some a) where
  moved : (mid : List Tree) (d i : ℕ) (a : Tree) → length mid ≡ d → slice_get (mid ++ (xs ++ zs)) i ≡ Some a
      → slice_get (mid ++ (ys ++ zs)) (cond (nat_lt i d) i (cond (nat_lt i (d + length places)) (d + get_or places (i - d) 0) i)) ≡ Some a
  moved mid d i a n h = of (nat_lt i d) refl
    where
      at_place : (b : Bool) → nat_lt i (d + length places) ≡ b → d ≤ i → slice_get (mid ++ (ys ++ zs)) (cond b (d + get_or places (i - d) 0) i) ≡ Some a
      at_place true q l =
          let below : i < d + length places = grind arith in
          let k : slice_get (xs ++ zs) (i - d) ≡ Some a = sym (following mid (xs ++ zs) i (i - d) (omega (arith, n, l))) ∙ h in
          let z : slice_get xs (i - d) ≡ Some a = sym (first_part xs zs (i - d) (omega (arith, below, count, l))) ∙ k in
          following mid (ys ++ zs) (d + get_or places (i - d) 0) (get_or places (i - d) 0) (omega (arith, n)) ∙ further ys zs (get_or places (i - d) 0) a (same (i - d) a z)
      at_place false q l =
          let above : d + length places ≤ i = grind arith in
          let j : ℕ = i - d - length xs in
          let k : slice_get zs j ≡ Some a = sym (following xs zs (i - d) j (omega (arith, above, count))) ∙ sym (following mid (xs ++ zs) i (i - d) (omega (arith, n, l))) ∙ h in
          following mid (ys ++ zs) i (i - d) (omega (arith, n, l)) ∙ following ys zs (i - d) j (omega (arith, above, count, counts)) ∙ k

      of : (b : Bool) → nat_lt i d ≡ b → slice_get (mid ++ (ys ++ zs)) (cond b i (cond (nat_lt i (d + length places)) (d + get_or places (i - d) 0) i)) ≡ Some a
      of true q = let l : i < d = grind arith in sym (in_front mid (xs ++ zs) (ys ++ zs) i (omega (arith, l, n))) ∙ h
      of false q = let l : d ≤ i = grind arith in at_place (nat_lt i (d + length places)) refl l

  one_good : (d : ℕ) (mid : List Tree) → length mid ≡ d → (h : Head) (a : Tree) → IsGood v (mid ++ (xs ++ zs)) (One h a) → IndicesFit (at places d (One h a))
      → (IndicesFit (at places d a) → IsGood v (mid ++ (ys ++ zs)) (at places d a)) → IsGood v (mid ++ (ys ++ zs)) (at places d (One h a))
  one_good d mid n (HBound i) a g x f =
      let y = f x.1 in
      let k : at places d a ≡ a = kind_stays places d a (typed_sorted v (mid ++ (xs ++ zs)) a g.0.2) g.0.0.0 in
      (((ap sort_of k ∙ g.0.0.0, x.0), moved mid d i a n g.0.1 ∙ ap (λ (z : Tree). Some z) (sym k), y.0), (tt, y.1))
  one_good d mid n (HParam m) a g x f = absurd (cc (g.1.0))
  one_good d mid n (HTyApp s) a g x f =
      let k : at places d a ≡ a = kinds_stay places d a (typed_sorted v (mid ++ (xs ++ zs)) a g.0.2) g.0.0 in
      let y = f x.1 in
      ((one_fits (reordering places) (sorts_reordering places) d (HTyApp s) a g.0.0, rw k g.0.1, y.0), (tt, y.1))
  one_good d mid n h a g x f = let y = f x.1 in ((one_fits (reordering places) (sorts_reordering places) d h a g.0.0, tt, y.0), (tt, y.1))

  pub reordered_good : (e : Tree) (d : ℕ) (mid : List Tree) → length mid ≡ d → IsGood v (mid ++ (xs ++ zs)) e → IndicesFit (at places d e) → IsGood v (mid ++ (ys ++ zs)) (at places d e)
  reordered_good (Leaf h) d mid n g x = rw (leaf_at places d h) g
  reordered_good (One h a) d mid n g x = one_good d mid n h a g x (λ y. reordered_good a d mid n (g.0.2, g.1.1) y)
  reordered_good (Two h a b) d mid n g x =
      let s = typed_sorted v (mid ++ (xs ++ zs)) a g.0.2 in
      let z = typed_sorted v (bound_types h a ++ (mid ++ (xs ++ zs))) b g.0.3 in
      let c = d + binders_over h a in
      let m : length (bound_types h a ++ mid) ≡ c = omega (arith, length-append (bound_types h a) mid, bound_count h a b g.0.0 s, n) in
      let under : IsGood v ((bound_types h a ++ mid) ++ (xs ++ zs)) b = rw (append_assoc (bound_types h a) mid (xs ++ zs)) (g.0.3, g.1.1) in
      let p = reordered_good a d mid n (g.0.2, g.1.0) x.0 in
      let q = reordered_good b c (bound_types h a ++ mid) m under x.1 in
      let o : IsGood v (bound_types h (at places d a) ++ (mid ++ (ys ++ zs))) (at places c b) = rw (bound_at places d h a b s g.0.0, sym (append_assoc (bound_types h a) mid (ys ++ zs))) q in
      ((two_fits (reordering places) (sorts_reordering places) d c h a b g.0.0, two_typed places v d c h a b g.0.0 s z g.0.1, p.0, o.0), (p.1, o.1))
  reordered_good (Three h a b c) d mid n g x =
      let types = mid ++ (xs ++ zs) in
      let p = reordered_good a d mid n (g.0.2, g.1.0) x.0 in
      let q = reordered_good b d mid n (g.0.3, g.1.1) x.1 in
      let r = reordered_good c d mid n (g.0.4, g.1.2) x.2 in
      ((three_fits (reordering places) (sorts_reordering places) d h a b c g.0.0, three_typed places v d h a b c g.0.0 (typed_sorted v types a g.0.2) (typed_sorted v types b g.0.3) (typed_sorted v types c g.0.4) g.0.1, p.0, q.0, r.0), (p.1, q.1, r.1))
