-- An instance by types of a tree has its typing; the types may have type variables themselves.
use Rattle.std.proofs.Common.{◌≡◌, ℕ, suc, ◌+◌, ◌<◌, inl, inr, List, [], ◌∷◌, ◌++◌, map, length, get_or, All, Option, Some, None, IfSome, option_map, subst, refl, sym, ap, ◌∙◌, arith}
use Rattle.std.proofs.lemmas.List.{map-append, length-map}
use Rattle.std.proofs.lemmas.Option.{slice_get-map}
use Rattle.trees.specs.Tree.{Tree, Leaf, One, Two, Three, Head, HTyVar, HTyApp, HCell, HBound, HParam, HNum, HFun, HPred, HEq, HForall, HExists, HLet, HIf, HCase, HArm, HPatVar, HPatCon, HPatAlias, head_of, binders_over}
use Rattle.trees.specs.Binding.{typing, inst_types, TyVar}
use Rattle.trees.specs.Sorts.{sort_of, yield_type, type_of, top_type, one_type, two_type, three_type, leaf_type}
use Rattle.trees.specs.Facts.{PutsSorts}
use Rattle.trees.specs.laws.Sorts.{sort_of-change, one_fits, two_fits, three_fits}
use Rattle.trees.proofs.Many.{inst_types_inst_types}
use Rattle.trees.proofs.Instances.{typing_any, inst_two}
use Rattle.tasks.specs.declared.signature.SymbolKind.TheVariants.{Predicate, Constructor}
use Rattle.tasks.specs.declared.signature.SymbolKind.TheVariants as kinds
use Rattle.tasks.specs.Task.{SymbolTree}
use Rattle.tasks.specs.Vocabulary.{Vocabulary}
use Rattle.tasks.specs.Typing.{members, entry, IsTypeSymbol, IsUse, HasResult, option_list, one_pattern, two_pattern, three_pattern, pattern_types, bound_types, BranchFits, BranchesFit, first_body, OneTyped, TwoTyped, ThreeTyped}
use Rattle.tasks.specs.Valid.{VariablesBelow, LeafBelow, ParametersOf, IsTypeIn, HasTypes}
use Rattle.tasks.proofs.TypeInstances.{top_map, list_map, below, some_kept, terms_not_kind, IsSoundVocabulary}
use Rattle.images.specs.typing_laws.HasTyping.{Suits, HasTyping, IsTypeAt}
use Rattle.images.proofs.typing_laws.Sorted.{has_sorts, has_further, kinds_only, types_parameters, kind_yields_none, kind_no_type, kind_bare}

module _ (t : Vocabulary) (tys : List Tree) (put : (j : ℕ) → IsTypeAt t (get_or tys j (TyVar j))) where
  abbrev pub at : Tree → Tree
  at e = inst_types e tys

  puts : PutsSorts (typing tys)
  puts = record { bound = λ _ _ _. refl; param = λ _ _ _. refl; ty_var = λ j. (put j).0 }

  pub at_one : (h : Head) (a : Tree) → at (One h a) ≡ One h (at a)
  at_one (HBound i) a = refl
  at_one (HParam n) a = refl
  at_one _ a = refl

  at_two : (h : Head) (a b : Tree) → at (Two h a b) ≡ Two h (at a) (at b)
  at_two h a b = inst_two tys h a b

  -- types of terms
  leaf_yield_type : (h : Head) → yield_type (at (Leaf h)) ≡ option_map at (leaf_type h)
  leaf_yield_type (HTyVar j) = kind_yields_none (get_or tys j (TyVar j)) (put j).0
  leaf_yield_type (HNum z) = refl
  leaf_yield_type _ = refl

  one_yield_type : (h : Head) (a : Tree) (o : Option Tree) → one_type h (at a) (option_map at o) ≡ option_map at (one_type h a o)
  one_yield_type (HBound i) a o = refl
  one_yield_type (HParam n) a o = refl
  one_yield_type _ a o = refl

  two_yield_type : (h : Head) (o p : Option Tree) → two_type h (option_map at o) (option_map at p) ≡ option_map at (two_type h o p)
  two_yield_type HCell o p = refl
  two_yield_type HLet o p = refl
  two_yield_type _ o p = refl

  three_yield_type : (h : Head) (o : Option Tree) (c : Tree) → three_type h (option_map at o) (at c) ≡ option_map at (three_type h o c)
  three_yield_type (HFun f) o c = refl
  three_yield_type HIf o c = refl
  three_yield_type _ o c = refl

  yield_type_at : (e : Tree) → yield_type (at e) ≡ option_map at (yield_type e)
  yield_type_at (Leaf h) = leaf_yield_type h
  yield_type_at (One h a) = ap yield_type (at_one h a) ∙ ap (one_type h (at a)) (yield_type_at a) ∙ one_yield_type h a (yield_type a)
  yield_type_at (Two h a b) = ap yield_type (at_two h a b) ∙ cc (yield_type_at a, yield_type_at b, two_yield_type h (yield_type a) (yield_type b))
  yield_type_at (Three h a b c) = ap (λ o. three_type h o (at c)) (yield_type_at b) ∙ three_yield_type h (yield_type b) c

  leaf_type_at : (h : Head) → type_of (at (Leaf h)) ≡ option_map at (type_of (Leaf h))
  leaf_type_at (HTyVar j) = kind_no_type (get_or tys j (TyVar j)) (put j).0
  leaf_type_at (HNum z) = refl
  leaf_type_at _ = refl

  pub type_at : (e : Tree) → type_of (at e) ≡ option_map at (type_of e)
  type_at (Leaf h) = leaf_type_at h
  type_at (One h a) = ap type_of (at_one h a) ∙ ap (top_type h) (sym (ap yield_type (at_one h a)) ∙ yield_type_at (One h a)) ∙ top_map at h (yield_type (One h a))
  type_at (Two h a b) = ap type_of (at_two h a b) ∙ ap (top_type h) (sym (ap yield_type (at_two h a b)) ∙ yield_type_at (Two h a b)) ∙ top_map at h (yield_type (Two h a b))
  type_at (Three h a b c) = ap (top_type h) (yield_type_at (Three h a b c)) ∙ top_map at h (yield_type (Three h a b c))

  -- lists
  leaf_members : (h : Head) → members (at (Leaf h)) ≡ []
  leaf_members (HTyVar j) = (kind_bare (get_or tys j (TyVar j)) (put j).0).no_members
  leaf_members _ = refl

  pub members_at : (e : Tree) → members (at e) ≡ map at (members e)
  members_at (Leaf h) = leaf_members h
  members_at (One h a) = ap members (at_one h a)
  members_at (Two HCell a b) = ap (λ l. at a ∷ l) (members_at b)
  members_at (Two _ a b) = refl
  members_at (Three h a b c) = refl

  -- variables of patterns
  one_variables : (h : Head) (a : Tree) → pattern_types (at a) ≡ map at (pattern_types a) → one_pattern h (at a) (pattern_types (at a)) ≡ map at (one_pattern h a (pattern_types a))
  one_variables HPatVar a q = refl
  one_variables HPatAlias a q =
      let s : option_list (type_of (at a)) ≡ map at (option_list (type_of a)) = ap option_list (type_at a) ∙ list_map at (type_of a) in
      cc (s, q, map-append at (option_list (type_of a)) (pattern_types a))
  one_variables _ a q = refl

  two_variables : (h : Head) (xs ys : List Tree) → two_pattern h (map at xs) (map at ys) ≡ map at (two_pattern h xs ys)
  two_variables HCell xs ys = sym (map-append at ys xs)
  two_variables _ xs ys = refl

  three_variables : (h : Head) (xs : List Tree) → three_pattern h (map at xs) ≡ map at (three_pattern h xs)
  three_variables (HPatCon n) xs = refl
  three_variables _ xs = refl

  leaf_variables : (h : Head) → pattern_types (at (Leaf h)) ≡ []
  leaf_variables (HTyVar j) = (kind_bare (get_or tys j (TyVar j)) (put j).0).no_variables
  leaf_variables _ = refl

  variables_at : (e : Tree) → pattern_types (at e) ≡ map at (pattern_types e)
  variables_at (Leaf h) = leaf_variables h
  variables_at (One h a) = ap pattern_types (at_one h a) ∙ one_variables h a (variables_at a)
  variables_at (Two h a b) = ap pattern_types (at_two h a b) ∙ cc (variables_at a, variables_at b, two_variables h (pattern_types a) (pattern_types b))
  variables_at (Three h a b c) = ap (three_pattern h) (variables_at b) ∙ three_variables h (pattern_types b)

  bound_at : (h : Head) (a : Tree) → bound_types h (at a) ≡ map at (bound_types h a)
  bound_at HForall a = refl
  bound_at HExists a = refl
  bound_at HLet a = ap option_list (type_at a) ∙ list_map at (type_of a)
  bound_at HArm a = variables_at a
  bound_at _ a = refl

  -- branches
  pub sort_at : (e : Tree) → sort_of (at e) ≡ sort_of e
  sort_at e = sort_of-change (typing tys) puts 0 e

  branch_at : (type : Option Tree) (first b : Tree) → BranchFits type first b → BranchFits (option_map at type) (at first) (at b)
  branch_at type first (Two HArm p e) x =
      let f : type_of (at first) ≡ option_map at (type_of first) = type_at first in
      let z : at (Two HArm p e) ≡ Two HArm (at p) (at e) = at_two HArm p e in
      subst (λ (w : Tree). BranchFits (option_map at type) (at first) w) (sym z) (type_at p ∙ ap (option_map at) x.0, sort_at e ∙ x.1 ∙ sym (sort_at first), type_at e ∙ ap (option_map at) x.2 ∙ sym f)
  branch_at type first _ x = absurd x

  leaf_branches : (type : Option Tree) (first : Tree) (h : Head) → BranchesFit type first (at (Leaf h))
  leaf_branches type first (HTyVar j) = (kind_bare (get_or tys j (TyVar j)) (put j).0).no_branches type first
  leaf_branches type first _ = tt

  branches_at : (type : Option Tree) (first b : Tree) → BranchesFit type first b → BranchesFit (option_map at type) (at first) (at b)
  branches_at type first (Leaf h) x = leaf_branches (option_map at type) (at first) h
  branches_at type first (One h a) x = rw (at_one h a) tt
  branches_at type first (Two HCell b bs) x = (branch_at type first b x.0, branches_at type first bs x.1)
  branches_at type first (Two _ a b) x = tt
  branches_at type first (Three h a b c) x = tt

  first_branch : (type : Option Tree) (first b bs : Tree) → BranchFits type first b → first_body (at (Two HCell b bs)) ≡ at (first_body (Two HCell b bs))
  first_branch type first (Two HArm p e) bs x = typing_any tys (0 + binders_over HArm p) 0 e
  first_branch type first _ bs x = absurd x

  leaf_first : (h : Head) → h ≡ HCell → first_body (at (Leaf h)) ≡ at (Leaf h)
  leaf_first (HTyVar j) q = absurd (cc)
  leaf_first _ q = refl

  first_at : (type : Option Tree) (first b : Tree) → head_of b ≡ HCell → BranchesFit type first b → first_body (at b) ≡ at (first_body b)
  first_at type first (Leaf h) q x = leaf_first h q
  first_at type first (One h a) q x = ap first_body (at_one h a) ∙ sym (at_one h a)
  first_at type first (Two HCell b bs) q x = first_branch type first b bs x.0
  first_at type first (Two _ a b) q x = absurd (cc)
  first_at type first (Three h a b c) q x = refl

  -- a symbol at types
  args_at : (as' zs : List Tree) → All (IsTypeIn t (length zs)) as' → map (option_map at) (map (λ a. Some (inst_types a zs)) as') ≡ map (λ a. Some (inst_types a (map at zs))) as'
  args_at [] zs v = refl
  args_at (a ∷ as') zs v =
      let o : IsTypeIn t (length zs) a = v 0 a (omega arith) in
      let q : at (inst_types a zs) ≡ inst_types a (map at zs) = inst_types_inst_types zs tys a (below (length zs) a o.variables) in
      cc (q, args_at as' zs (λ k d l. v (suc k) d (omega arith)))

  types_at : (xs : List Tree) → map type_of (map at xs) ≡ map (option_map at) (map type_of xs)
  types_at [] = refl
  types_at (x ∷ xs) = cc (type_at x, types_at xs)

  use_at : (e : SymbolTree) → All (IsTypeIn t e.vars) e.args → (types args : Tree) → IsUse e types args → IsUse e (at types) (at args)
  use_at e v types args u = record {
    as_many = ap length (members_at types) ∙ length-map (members types) at ∙ u.as_many;
    fit =
        let w : All (IsTypeIn t (length (members types))) e.args = subst (λ (n : ℕ). All (IsTypeIn t n) e.args) (sym u.as_many) v in
        ap (map type_of) (members_at args) ∙ types_at (members args) ∙ ap (map (option_map at)) u.fit ∙ args_at e.args (members types) w
        ∙ sym (ap (λ (l : List Tree). map (λ (a : Tree). Some (inst_types a l)) e.args) (members_at types));
  }

  result_at : (o : Option Tree) (zs : List Tree) (c : Tree) → IfSome o (IsTypeIn t (length zs)) → option_map (λ r. inst_types r zs) o ≡ Some c → option_map (λ r. inst_types r (map at zs)) o ≡ Some (at c)
  result_at None zs c v q = absurd (cc)
  result_at (Some r) zs c v q = ap (λ (e : Tree). Some e) (sym (inst_types_inst_types zs tys r (below (length zs) r v.variables))) ∙ ap (option_map at) q

  -- ---- sorts of children
  one_suits : (h : Head) (a : Tree) → Suits (One h a) → Suits (One h (at a))
  one_suits (HBound i) a f = (sort_at a ∙ f.0, tt)
  one_suits (HParam n) a f = one_fits (typing tys) puts 0 (HParam n) a f
  one_suits h a f = one_fits (typing tys) puts 0 h a f

  -- each operator
  leaf_typed : (types more : List Tree) (h : Head) → HasTyping t types (Leaf h) → HasTyping t more (at (Leaf h))
  leaf_typed types more (HTyVar j) x = has_further t [] more (get_or tys j (TyVar j)) (put j).1
  leaf_typed types more _ x = x

  one_typed : (types : List Tree) (h : Head) (a : Tree) → OneTyped t types h a → OneTyped t (map at types) h (at a)
  one_typed types (HTyApp k) a x =
      let q : length (members a) ≡ length (members (at a)) = sym (ap length (members_at a) ∙ length-map (members a) at) in
      subst (λ (n : ℕ). IsTypeSymbol t k n) q x
  one_typed types (HBound i) a x = slice_get-map at types i ∙ ap (option_map at) x
  one_typed types _ a x = tt

  -- where the entries that may be named have types of the vocabulary
  module _ (sound : IsSoundVocabulary t) where
    two_typed : (h : Head) (a b : Tree) → Suits (Two h a b) → TwoTyped t h a b → TwoTyped t h (at a) (at b)
    two_typed (HPred p) a b f x = (
      x.0,
      some_kept (entry t p) _ _ (λ e q y. (y.0, use_at e (sound p e (inl x.0) q (λ k. let z : Predicate ≡ kinds.Kind = sym y.0 ∙ k in cc)).args a b y.1)) x.1,
    )
    two_typed HEq a b f x = type_at a ∙ ap (option_map at) x ∙ sym (type_at b)
    two_typed HCase a b f x =
        let y : BranchesFit (option_map at (type_of a)) (at (first_body b)) (at b) = branches_at (type_of a) (first_body b) b x in
        let z : BranchesFit (option_map at (type_of a)) (first_body (at b)) (at b) = subst (λ (w : Tree). BranchesFit (option_map at (type_of a)) w (at b)) (sym (first_at (type_of a) (first_body b) b f.1 x)) y in
        subst (λ (o : Option Tree). BranchesFit o (first_body (at b)) (at b)) (sym (type_at a)) z
    two_typed _ a b f x = tt

    gives_at : (e : SymbolTree) (a b c : Tree) → HasTypes t e → IsUse e a b → HasResult e a c → HasResult e (at a) (at c)
    gives_at e a b c s u y =
        ap (λ (l : List Tree). option_map (λ (r : Tree). inst_types r l) e.result) (members_at a)
        ∙ result_at e.result (members a) c (subst (λ (n : ℕ). IfSome e.result (IsTypeIn t n)) (sym u.as_many) s.result) y

    three_typed : (h : Head) (a b c : Tree) → ThreeTyped t h a b c → ThreeTyped t h (at a) (at b) (at c)
    three_typed (HFun f) a b c x = (
      x.0,
      some_kept (entry t f) _ _ (λ e q y.
          let s = sound f e (inl x.0) q (terms_not_kind e.kind y.0) in
          (y.0, use_at e s.args a b y.1, gives_at e a b c s y.1 y.2)) x.1,
    )
    three_typed HIf a b c x = type_at b ∙ ap (option_map at) x ∙ sym (type_at c)
    three_typed (HPatCon k) a b c x = (
      x.0,
      some_kept (entry t k) _ _ (λ e q y.
          let s = sound k e (inr x.0) q (λ z. let w : Constructor ≡ kinds.Kind = sym y.0 ∙ z in cc) in
          (y.0, use_at e s.args a b y.1, gives_at e a b c s y.1 y.2)) x.1,
    )
    three_typed _ a b c x = tt

    -- an instance by types of a typed tree is typed
    pub has_types : (types : List Tree) (e : Tree) → HasTyping t types e → HasTyping t (map at types) (at e)
    has_types types (Leaf h) x = leaf_typed types (map at types) h x
    has_types types (One h a) x =
        subst (λ (z : Tree). HasTyping t (map at types) z) (sym (at_one h a)) (one_suits h a x.0, one_typed types h a x.1, has_types types a x.2)
    has_types types (Two h a b) x =
        let q : map at (bound_types h a ++ types) ≡ bound_types h (at a) ++ map at types = map-append at (bound_types h a) types ∙ ap (λ (l : List Tree). l ++ map at types) (sym (bound_at h a)) in
        let u : HasTyping t (bound_types h (at a) ++ map at types) (at b) = subst (λ (l : List Tree). HasTyping t l (at b)) q (has_types (bound_types h a ++ types) b x.3) in
        subst (λ (z : Tree). HasTyping t (map at types) z) (sym (at_two h a b)) (two_fits (typing tys) puts 0 0 h a b x.0, two_typed h a b x.0 x.1, has_types types a x.2, u)
    has_types types (Three h a b c) x =
        (three_fits (typing tys) puts 0 h a b c x.0, three_typed h a b c x.1, has_types types a x.2, has_types types b x.3, has_types types c x.4)

  -- ---- type variables and parameters
  module _ (n : ℕ) (each : (j : ℕ) → j < length tys → VariablesBelow n (get_or tys j (TyVar j))) where
    leaf_variables_below : (h : Head) → LeafBelow (length tys) h → VariablesBelow n (at (Leaf h))
    leaf_variables_below (HTyVar j) l = each j l
    leaf_variables_below _ l = tt

    pub variables_below_at : (e : Tree) → VariablesBelow (length tys) e → VariablesBelow n (at e)
    variables_below_at (Leaf h) l = leaf_variables_below h l
    variables_below_at (One h a) l = subst (λ (z : Tree). VariablesBelow n z) (sym (at_one h a)) (variables_below_at a l)
    variables_below_at (Two h a b) l = subst (λ (z : Tree). VariablesBelow n z) (sym (at_two h a b)) (variables_below_at a l.0, variables_below_at b l.1)
    variables_below_at (Three h a b c) l = (variables_below_at a l.0, variables_below_at b l.1, variables_below_at c l.2)

  leaf_no_parameters : (h : Head) → ParametersOf [] (at (Leaf h))
  leaf_no_parameters (HTyVar j) = types_parameters [] (get_or tys j (TyVar j)) (kinds_only (get_or tys j (TyVar j)) (has_sorts t [] (get_or tys j (TyVar j)) (put j).1) (inl (put j).0))
  leaf_no_parameters _ = tt

  one_no_parameters : (h : Head) (a : Tree) → ParametersOf [] (One h a) → ParametersOf [] (at a) → ParametersOf [] (One h (at a))
  one_no_parameters (HParam n) a p q = absurd (let z = p.0 in cc)
  one_no_parameters _ a p q = (tt, q)

  pub no_parameters_at : (e : Tree) → ParametersOf [] e → ParametersOf [] (at e)
  no_parameters_at (Leaf h) p = leaf_no_parameters h
  no_parameters_at (One h a) p = subst (ParametersOf []) (sym (at_one h a)) (one_no_parameters h a p (no_parameters_at a p.1))
  no_parameters_at (Two h a b) p = subst (ParametersOf []) (sym (at_two h a b)) (no_parameters_at a p.0, no_parameters_at b p.1)
  no_parameters_at (Three h a b c) p = (no_parameters_at a p.0, no_parameters_at b p.1, no_parameters_at c p.2)
