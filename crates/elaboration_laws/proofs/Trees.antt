-- Typed trees under a map of symbols: they are typed over what the map's symbols may name.
use Rattle.std.proofs.Common.{◌≡◌, ◌≢◌, ℕ, inl, inr, suc, Bool, true, false, List, [], ◌∷◌, ◌++◌, map, length, All, Option, Some, None, IfSome, IsSomeAnd, option_map, refl, sym, ap, subst, ◌∙◌, arith}
use Rattle.std.proofs.lemmas.List.{map-append, length-map}
use Rattle.std.proofs.lemmas.Option.{slice_get-map}
use Rattle.elab_groups.specs.trees.declared.Sort.TheVariants.{Kind}
use Rattle.elab_groups.specs.trees.Tree.{Tree, Leaf, One, Two, Three, Head, HTyRigid, HTyApp, HCell, HBound, HParam, HNum, HFun, HPred, HEq, HForall, HExists, HLet, HIf, HCase, HArm, HPatCon, HPatAlias, head_of}
use Rattle.elab_groups.specs.trees.Binding.{inst_types}
use Rattle.elab_groups.specs.trees.Sorts.{sort_of, yield_type, type_of, top_type, two_type, three_type}
use Rattle.elab_groups.specs.open_types.unify_types.Assigned.{IsTypeOrTypes}
use Rattle.elab_groups.proofs.open_types.unify_types.SortedTypes.{kind_is_type}
use Rattle.elab_groups.specs.tasks.declared.signature.SymbolKind.{SymbolKind}
use Rattle.elab_groups.specs.tasks.declared.signature.SymbolKind.TheVariants.{Predicate, Constructor}
use Rattle.elab_groups.specs.tasks.declared.signature.SymbolKind.TheVariants as kinds
use Rattle.elab_groups.specs.tasks.Task.{SymbolTree}
use Rattle.elab_groups.specs.tasks.Vocabulary.{Vocabulary}
use Rattle.elab_groups.specs.tasks.Typing.{members, entry, IsUse, HasResult, MakesTerms, option_list, two_pattern, three_pattern, pattern_types, bound_types, BranchFits, BranchesFit, first_body, LeafTyped, OneTyped, TwoTyped, ThreeTyped, TypedUnder}
use Rattle.elab_groups.specs.tasks.Valid.{VariablesBelow, ParametersOf, IsTypeIn, HasTypes, IsFormulaOver}
use Rattle.elab_groups.proofs.tasks.Closing.{typed_sorted}
use Rattle.clones.specs.Mapped.{Map, head_mapped, mapped}
use Rattle.clones.specs.Meaning.{IsAlike}
use Rattle.clones.proofs.Alike.{alike_itself, kinds_alike, one_alike, two_alike, three_alike, one_fits, two_fits, three_fits}
use Rattle.elaboration_laws.specs.Morphisms.{HasMappedTypes, KindBecomes, IsMorphism, AreTyped}
use Rattle.elaboration_laws.proofs.Over.{IsOver, sorted_over, type_over, over_good}
use Rattle.elaboration_laws.proofs.CopiedTypes.{over_members, over_yields, over_untyped, over_variables, over_branches, over_mapped, inst_mapped, variables_over}
use Rattle.elab_groups.proofs.tasks.TypeInstances.{some_kept, terms_not_kind, list_map, top_map}

pub found : (o : Option SymbolTree) (P : SymbolTree → Type 0) → IsSomeAnd o P → (e : SymbolTree) × ((o ≡ Some e) × P e)
found None P h = absurd h
found (Some e) P h = (e, (refl, h))

terms_become : (k j : SymbolKind) → KindBecomes k j → MakesTerms k → MakesTerms j
terms_become kinds.Kind j b x = absurd x
terms_become Predicate j b x = absurd x
terms_become _ j b x = b

module _ (f : ℕ → ℕ) where
  top_same : (h : Head) (o : Option Tree) → top_type (head_mapped f h) o ≡ top_type h o
  top_same (HTyApp k) o = refl
  top_same (HFun k) o = refl
  top_same (HPred k) o = refl
  top_same (HPatCon k) o = refl
  top_same _ o = refl

module _ (m : Map) where
  two_yields : (h : Head) (o p x y : Option Tree) → x ≡ option_map (mapped m) o → y ≡ option_map (mapped m) p → two_type (head_mapped m.symbols h) x y ≡ option_map (mapped m) (two_type h o p)
  two_yields HCell o p x y q r = q
  two_yields HLet o p x y q r = r
  two_yields HCase o p x y q r = r
  two_yields HArm o p x y q r = r
  two_yields _ o p x y q r = refl

  three_yields : (h : Head) (o x : Option Tree) (c : Tree) → x ≡ option_map (mapped m) o → three_type (head_mapped m.symbols h) x (mapped m c) ≡ option_map (mapped m) (three_type h o c)
  three_yields (HFun k) o x c q = refl
  three_yields HIf o x c q = q
  three_yields (HPatCon k) o x c q = refl
  three_yields _ o x c q = refl

  two_variables : (h : Head) (xs ys : List Tree) → two_pattern (head_mapped m.symbols h) (map (mapped m) xs) (map (mapped m) ys) ≡ map (mapped m) (two_pattern h xs ys)
  two_variables HCell xs ys = sym (map-append (mapped m) ys xs)
  two_variables _ xs ys = refl

  three_variables : (h : Head) (xs : List Tree) → three_pattern (head_mapped m.symbols h) (map (mapped m) xs) ≡ map (mapped m) (three_pattern h xs)
  three_variables (HPatCon k) xs = refl
  three_variables _ xs = refl

  alias_variables : (o x : Option Tree) (xs ys : List Tree) → x ≡ option_map (mapped m) o → ys ≡ map (mapped m) xs → option_list x ++ ys ≡ map (mapped m) (option_list o ++ xs)
  alias_variables o x xs ys q r =
      ap (λ (z : Option Tree). option_list z ++ ys) q ∙ ap (λ (z : List Tree). option_list (option_map (mapped m) o) ++ z) r
      ∙ ap (λ (z : List Tree). z ++ map (mapped m) xs) (list_map (mapped m) o) ∙ sym (map-append (mapped m) (option_list o) xs)

-- a type holds no variable of terms
module _ (v : Vocabulary) where
  one_closed : (k : Bool) (types : List Tree) (h : Head) (a : Tree) → IsTypeOrTypes k (One h a) → OneTyped v types h a → OneTyped v [] h a
  one_closed true types (HTyApp s) a t x = x
  one_closed true types _ a t x = absurd t.0
  one_closed false types _ a t x = absurd t.0

  two_closed : (k : Bool) (types : List Tree) (h : Head) (a b : Tree) → IsTypeOrTypes k (Two h a b) → TypedUnder v [] b → TypedUnder v (bound_types h a ++ []) b
  two_closed false types HCell a b t x = x
  two_closed false types _ a b t x = absurd t.0
  two_closed true types _ a b t x = absurd t.0

  closed : (k : Bool) (types : List Tree) (e : Tree) → IsTypeOrTypes k e → TypedUnder v types e → TypedUnder v [] e
  closed k types (Leaf h) t x = x
  closed k types (One h a) t x = (x.0, one_closed k types h a t x.1, closed false types a t.1 x.2)
  closed k types (Two h a b) t x = (x.0, x.1, closed true types a t.1 x.2, two_closed k types h a b t (closed false (bound_types h a ++ types) b t.2 x.3))
  closed k types (Three h a b c) t x = absurd t

  pub app_over : (types : List Tree) (k : ℕ) (a : Tree) → TypedUnder v types (One (HTyApp k) a) → IsOver v true (One (HTyApp k) a)
  app_over types k a x =
      let e : Tree = One (HTyApp k) a in
      sorted_over v e refl (closed true types e (kind_is_type e (typed_sorted v types e x) refl) x)

module _ (v w : Vocabulary) (m : Map) (morphism : IsMorphism v w m) where
  -- a type in a tree
  pub type_at : (types : List Tree) (k : ℕ) (a : Tree) → TypedUnder v types (One (HTyApp k) a) → IsOver w true (mapped m (One (HTyApp k) a))
  type_at types k a x =
      over_mapped v w m morphism.types true (One (HTyApp k) a) (app_over v types k a x)

  over_kind : (e : Tree) → IsOver w true e → sort_of e ≡ Kind
  over_kind e o = (over_good w true [] e o).1

  pub alike : (types : List Tree) (e : Tree) → TypedUnder v types e → IsAlike e (mapped m e)
  alike types (Leaf h) x = alike_itself (Leaf h)
  alike types (One (HTyApp k) a) x = kinds_alike (One (HTyApp k) a) (mapped m (One (HTyApp k) a)) refl (over_kind (mapped m (One (HTyApp k) a)) (type_at types k a x))
  alike types (One h a) x = one_alike m.symbols h a (mapped m a)
  alike types (Two h a b) x = two_alike m.symbols h a b (mapped m a) (mapped m b) (alike types a x.2) (alike (bound_types h a ++ types) b x.3)
  alike types (Three h a b c) x = three_alike m.symbols h a b c (mapped m a) (mapped m b) (mapped m c) (alike types b x.3)

  -- types of terms
  yields_mapped : (types : List Tree) (e : Tree) → TypedUnder v types e → yield_type (mapped m e) ≡ option_map (mapped m) (yield_type e)
  yields_mapped types (Leaf (HNum z)) x = ap (λ (t : Tree). Some t) (sym morphism.int)
  yields_mapped types (Leaf h) x = refl
  yields_mapped types (One (HTyApp k) a) x = over_yields w (mapped m (One (HTyApp k) a)) (type_at types k a x)
  yields_mapped types (One HPatAlias a) x = yields_mapped types a x.2
  yields_mapped types (One h a) x = refl
  yields_mapped types (Two h a b) x = two_yields m h (yield_type a) (yield_type b) (yield_type (mapped m a)) (yield_type (mapped m b)) (yields_mapped types a x.2) (yields_mapped (bound_types h a ++ types) b x.3)
  yields_mapped types (Three h a b c) x = three_yields m h (yield_type b) (yield_type (mapped m b)) c (yields_mapped types b x.3)

  pub type_mapped : (types : List Tree) (e : Tree) → TypedUnder v types e → type_of (mapped m e) ≡ option_map (mapped m) (type_of e)
  type_mapped types (Leaf (HNum z)) x = ap (λ (t : Tree). Some t) (sym morphism.int)
  type_mapped types (Leaf h) x = refl
  type_mapped types (One (HTyApp k) a) x = over_untyped w (mapped m (One (HTyApp k) a)) (type_at types k a x)
  type_mapped types (One HPatAlias a) x = yields_mapped types a x.2
  type_mapped types (One h a) x = refl
  type_mapped types (Two h a b) x = top_same m.symbols h (yield_type (mapped m (Two h a b))) ∙ ap (top_type h) (yields_mapped types (Two h a b) x) ∙ top_map (mapped m) h (yield_type (Two h a b))
  type_mapped types (Three h a b c) x = top_same m.symbols h (yield_type (mapped m (Three h a b c))) ∙ ap (top_type h) (yields_mapped types (Three h a b c) x) ∙ top_map (mapped m) h (yield_type (Three h a b c))

  -- lists
  pub members_mapped : (types : List Tree) (e : Tree) → TypedUnder v types e → members (mapped m e) ≡ map (mapped m) (members e)
  members_mapped types (Leaf h) x = refl
  members_mapped types (One (HTyApp k) a) x = over_members w (mapped m (One (HTyApp k) a)) (type_at types k a x)
  members_mapped types (One h a) x = refl
  members_mapped types (Two HCell a b) x = ap (λ l. mapped m a ∷ l) (members_mapped types b x.3)
  members_mapped types (Two h a b) x = refl
  members_mapped types (Three h a b c) x = refl

  types_mapped : (types : List Tree) (e : Tree) → TypedUnder v types e → map type_of (map (mapped m) (members e)) ≡ map (option_map (mapped m)) (map type_of (members e))
  types_mapped types (Leaf h) x = refl
  types_mapped types (One h a) x = refl
  types_mapped types (Two HCell a b) x = cc (type_mapped types a x.2, types_mapped types b x.3)
  types_mapped types (Two h a b) x = refl
  types_mapped types (Three h a b c) x = refl

  -- variables of patterns
  variables_mapped : (types : List Tree) (e : Tree) → TypedUnder v types e → pattern_types (mapped m e) ≡ map (mapped m) (pattern_types e)
  variables_mapped types (Leaf h) x = refl
  variables_mapped types (One (HTyApp k) a) x = over_variables w (mapped m (One (HTyApp k) a)) (type_at types k a x)
  variables_mapped types (One HPatAlias a) x = alias_variables m (type_of a) (type_of (mapped m a)) (pattern_types a) (pattern_types (mapped m a)) (type_mapped types a x.2) (variables_mapped types a x.2)
  variables_mapped types (One h a) x = refl
  variables_mapped types (Two h a b) x =
      ap (λ (l : List Tree). two_pattern (head_mapped m.symbols h) l (pattern_types (mapped m b))) (variables_mapped types a x.2)
      ∙ ap (two_pattern (head_mapped m.symbols h) (map (mapped m) (pattern_types a))) (variables_mapped (bound_types h a ++ types) b x.3)
      ∙ two_variables m h (pattern_types a) (pattern_types b)
  variables_mapped types (Three h a b c) x = ap (three_pattern (head_mapped m.symbols h)) (variables_mapped types b x.3) ∙ three_variables m h (pattern_types b)

  bound_mapped : (types : List Tree) (h : Head) (a : Tree) → TypedUnder v types a → bound_types (head_mapped m.symbols h) (mapped m a) ≡ map (mapped m) (bound_types h a)
  bound_mapped types HForall a x = refl
  bound_mapped types HExists a x = refl
  bound_mapped types HLet a x = ap option_list (type_mapped types a x) ∙ list_map (mapped m) (type_of a)
  bound_mapped types HArm a x = variables_mapped types a x
  bound_mapped types _ a x = refl

  -- branches
  sort_mapped : (types : List Tree) (e : Tree) → TypedUnder v types e → sort_of (mapped m e) ≡ sort_of e
  sort_mapped types e x = (alike types e x).sort

  first_typed : (types : List Tree) (b : Tree) → TypedUnder v types b → (more : List Tree) × TypedUnder v more (first_body b)
  first_typed types (Two HCell (Two HArm p e) bs) x = (bound_types HArm p ++ types, x.2.3)
  first_typed types (Two h a b) x = (types, x)
  first_typed types (Leaf h) x = (types, x)
  first_typed types (One h a) x = (types, x)
  first_typed types (Three h a b c) x = (types, x)

  module _ (type : Option Tree) (us : List Tree) (first : Tree) (typed : TypedUnder v us first) where
    branch_mapped : (types : List Tree) (b : Tree) → TypedUnder v types b → BranchFits type first b → BranchFits (option_map (mapped m) type) (mapped m first) (mapped m b)
    branch_mapped types (Two HArm p e) x y = (
      type_mapped types p x.2 ∙ ap (option_map (mapped m)) y.0,
      sort_mapped (bound_types HArm p ++ types) e x.3 ∙ y.1 ∙ sym (sort_mapped us first typed),
      type_mapped (bound_types HArm p ++ types) e x.3 ∙ ap (option_map (mapped m)) y.2 ∙ sym (type_mapped us first typed),
    )
    branch_mapped types _ x y = absurd y

    branches_mapped : (types : List Tree) (b : Tree) → TypedUnder v types b → BranchesFit type first b → BranchesFit (option_map (mapped m) type) (mapped m first) (mapped m b)
    branches_mapped types (Leaf h) x y = tt
    branches_mapped types (One (HTyApp k) a) x y = over_branches w (option_map (mapped m) type) (mapped m first) (mapped m (One (HTyApp k) a)) (type_at types k a x)
    branches_mapped types (One h a) x y = tt
    branches_mapped types (Two HCell b bs) x y = (branch_mapped types b x.2 y.0, branches_mapped types bs x.3 y.1)
    branches_mapped types (Two h a b) x y = tt
    branches_mapped types (Three h a b c) x y = tt

    first_branch : (b bs : Tree) → BranchFits type first b → first_body (mapped m (Two HCell b bs)) ≡ mapped m (first_body (Two HCell b bs))
    first_branch (Two HArm p e) bs y = refl
    first_branch _ bs y = absurd y

    first_mapped : (b : Tree) → head_of b ≡ HCell → BranchesFit type first b → first_body (mapped m b) ≡ mapped m (first_body b)
    first_mapped (Two HCell b bs) q y = first_branch b bs y.0
    first_mapped (Two h a b) q y = absurd (cc)
    first_mapped (Leaf h) q y = refl
    first_mapped (One (HTyApp k) a) q y = absurd (cc)
    first_mapped (One h a) q y = refl
    first_mapped (Three h a b c) q y = refl

  -- a symbol at types
  args_mapped : (ts zs : List Tree) (n : ℕ) → All (IsTypeIn v n) ts → map (option_map (mapped m)) (map (λ a. Some (inst_types a zs)) ts) ≡ map (λ a. Some (inst_types a (map (mapped m) zs))) (map (mapped m) ts)
  args_mapped [] zs n g = refl
  args_mapped (t ∷ ts) zs n g =
      let q : mapped m (inst_types t zs) ≡ inst_types (mapped m t) (map (mapped m) zs) = inst_mapped v w m morphism.types zs true t (type_over v n t (g 0 t (omega arith))) in
      cc (q, args_mapped ts zs n (λ k d l. g (suc k) d (omega arith)))

  use_mapped : (e j : SymbolTree) → HasMappedTypes m e j → All (IsTypeIn v e.vars) e.args → (us us' : List Tree) (a b : Tree) → TypedUnder v us a → TypedUnder v us' b → IsUse e a b → IsUse j (mapped m a) (mapped m b)
  use_mapped e j h g us us' a b x y u = record {
    as_many = ap length (members_mapped us a x) ∙ length-map (members a) (mapped m) ∙ u.as_many ∙ sym h.vars;
    fit =
        ap (map type_of) (members_mapped us' b y) ∙ types_mapped us' b y ∙ ap (map (option_map (mapped m))) u.fit
        ∙ args_mapped e.args (members a) e.vars g
        ∙ sym (ap (λ (l : List Tree). map (λ (c : Tree). Some (inst_types c l)) (map (mapped m) e.args)) (members_mapped us a x))
        ∙ sym (ap (λ (l : List Tree). map (λ (c : Tree). Some (inst_types c (members (mapped m a)))) l) h.args);
  }

  result_mapped : (o : Option Tree) (zs : List Tree) (n : ℕ) (c : Tree) → IfSome o (IsTypeIn v n) → option_map (λ r. inst_types r zs) o ≡ Some c → option_map (λ r. inst_types r (map (mapped m) zs)) (option_map (mapped m) o) ≡ Some (mapped m c)
  result_mapped None zs n c g q = absurd (cc)
  result_mapped (Some r) zs n c g q = ap (λ (e : Tree). Some e) (sym (inst_mapped v w m morphism.types zs true r (type_over v n r g))) ∙ ap (option_map (mapped m)) q

  gives_mapped : (e j : SymbolTree) → HasMappedTypes m e j → IfSome e.result (IsTypeIn v e.vars) → (us : List Tree) (a c : Tree) → TypedUnder v us a → HasResult e a c → HasResult j (mapped m a) (mapped m c)
  gives_mapped e j h g us a c x y =
      ap (option_map (λ (r : Tree). inst_types r (members (mapped m a)))) h.result
      ∙ ap (λ (l : List Tree). option_map (λ (r : Tree). inst_types r l) (option_map (mapped m) e.result)) (members_mapped us a x)
      ∙ result_mapped e.result (members a) e.vars c g y

  module _ (sound : AreTyped v) where
    leaf_becomes : (h : Head) → LeafTyped v h → LeafTyped w h
    leaf_becomes (HTyRigid k) x = morphism.types.rigid k x
    leaf_becomes _ x = tt

    two_becomes : (us : List Tree) (h : Head) (a b : Tree) → TypedUnder v us (Two h a b) → TwoTyped w (head_mapped m.symbols h) (mapped m a) (mapped m b)
    two_becomes us (HPred p) a b x =
        let f = found (entry v p) _ x.1.1 in
        let no : f.0.kind ≢ kinds.Kind = λ k. let z : Predicate ≡ kinds.Kind = sym f.1.1.0 ∙ k in cc in
        let s = morphism.symbols p f.0 f.1.0 x.1.0 no in
        let types : HasTypes v f.0 = sound p f.0 f.1.0 (inl x.1.0) no in
        (s.0, some_kept (entry w (m.symbols p)) _ _ (λ j q y. (subst (λ (k : SymbolKind). KindBecomes k j.kind) f.1.1.0 y.0, use_mapped f.0 j y.1 types.args us us a b x.2 x.3 f.1.1.1)) s.1)
    two_becomes us HEq a b x = type_mapped us a x.2 ∙ ap (option_map (mapped m)) x.1 ∙ sym (type_mapped us b x.3)
    two_becomes us HCase a b x =
        let f = first_typed us b x.3 in
        let y : BranchesFit (option_map (mapped m) (type_of a)) (mapped m (first_body b)) (mapped m b) = branches_mapped (type_of a) f.0 (first_body b) f.1 us b x.3 x.1 in
        let z : BranchesFit (option_map (mapped m) (type_of a)) (first_body (mapped m b)) (mapped m b) =
        subst (λ (e : Tree). BranchesFit (option_map (mapped m) (type_of a)) e (mapped m b)) (sym (first_mapped (type_of a) f.0 (first_body b) f.1 b x.0.1 x.1)) y in
        subst (λ (o : Option Tree). BranchesFit o (first_body (mapped m b)) (mapped m b)) (sym (type_mapped us a x.2)) z
    two_becomes us _ a b x = tt

    three_becomes : (us : List Tree) (h : Head) (a b c : Tree) → TypedUnder v us (Three h a b c) → ThreeTyped w (head_mapped m.symbols h) (mapped m a) (mapped m b) (mapped m c)
    three_becomes us (HFun p) a b c x =
        let f = found (entry v p) _ x.1.1 in
        let no : f.0.kind ≢ kinds.Kind = terms_not_kind f.0.kind f.1.1.0 in
        let s = morphism.symbols p f.0 f.1.0 x.1.0 no in
        let types : HasTypes v f.0 = sound p f.0 f.1.0 (inl x.1.0) no in
        (s.0, some_kept (entry w (m.symbols p)) _ _ (λ j q y. (terms_become f.0.kind j.kind y.0 f.1.1.0, use_mapped f.0 j y.1 types.args us us a b x.2 x.3 f.1.1.1, gives_mapped f.0 j y.1 types.result us a c x.2 f.1.1.2)) s.1)
    three_becomes us HIf a b c x = type_mapped us b x.3 ∙ ap (option_map (mapped m)) x.1 ∙ sym (type_mapped us c x.4)
    three_becomes us (HPatCon p) a b c x =
        let f = found (entry v p) _ x.1.1 in
        let no : f.0.kind ≢ kinds.Kind = λ k. let z : Constructor ≡ kinds.Kind = sym f.1.1.0 ∙ k in cc in
        let s = morphism.patterns p f.0 f.1.0 x.1.0 f.1.1.0 in
        let types : HasTypes v f.0 = sound p f.0 f.1.0 (inr x.1.0) no in
        (s.0, some_kept (entry w (m.symbols p)) _ _ (λ j q y. (y.0, use_mapped f.0 j y.1 types.args us us a b x.2 x.3 f.1.1.1, gives_mapped f.0 j y.1 types.result us a c x.2 f.1.1.2)) s.1)
    three_becomes us _ a b c x = tt

    -- what is typed becomes typed
    pub typed_mapped : (us : List Tree) (e : Tree) → TypedUnder v us e → TypedUnder w (map (mapped m) us) (mapped m e)
    typed_mapped us (Leaf h) x = (x.0, leaf_becomes h x.1)
    typed_mapped us (One (HTyApp k) a) x = (over_good w true (map (mapped m) us) (mapped m (One (HTyApp k) a)) (type_at us k a x)).0.0
    typed_mapped us (One (HBound i) a) x = (one_fits m.symbols (HBound i) a (mapped m a) (alike us a x.2) x.0, slice_get-map (mapped m) us i ∙ ap (option_map (mapped m)) x.1, typed_mapped us a x.2)
    typed_mapped us (One h a) x = (one_fits m.symbols h a (mapped m a) (alike us a x.2) x.0, tt, typed_mapped us a x.2)
    typed_mapped us (Two h a b) x =
        let q : map (mapped m) (bound_types h a ++ us) ≡ bound_types (head_mapped m.symbols h) (mapped m a) ++ map (mapped m) us =
        map-append (mapped m) (bound_types h a) us ∙ ap (λ (l : List Tree). l ++ map (mapped m) us) (sym (bound_mapped us h a x.2)) in (
          two_fits m.symbols h a b (mapped m a) (mapped m b) (alike us a x.2) (alike (bound_types h a ++ us) b x.3) x.0,
          two_becomes us h a b x,
          typed_mapped us a x.2,
          subst (λ (l : List Tree). TypedUnder w l (mapped m b)) q (typed_mapped (bound_types h a ++ us) b x.3),
        )
    typed_mapped us (Three h a b c) x = (
      three_fits m.symbols h a b c (mapped m a) (mapped m b) (mapped m c) (alike us a x.2) (alike us b x.3) (alike us c x.4) x.0,
      three_becomes us h a b c x,
      typed_mapped us a x.2,
      typed_mapped us b x.3,
      typed_mapped us c x.4,
    )

    -- no parameters
    parameters_mapped : (us : List Tree) (e : Tree) → TypedUnder v us e → ParametersOf [] e → ParametersOf [] (mapped m e)
    parameters_mapped us (Leaf h) x p = tt
    parameters_mapped us (One (HTyApp k) a) x p = (over_good w true [] (mapped m (One (HTyApp k) a)) (type_at us k a x)).0.1
    parameters_mapped us (One (HParam n) a) x p = absurd (let q = p.0 in cc)
    parameters_mapped us (One h a) x p = (tt, parameters_mapped us a x.2 p.1)
    parameters_mapped us (Two h a b) x p = (parameters_mapped us a x.2 p.0, parameters_mapped (bound_types h a ++ us) b x.3 p.1)
    parameters_mapped us (Three h a b c) x p = (parameters_mapped us a x.2 p.0, parameters_mapped us b x.3 p.1, parameters_mapped us c x.4 p.2)

    below_mapped : (n : ℕ) (us : List Tree) (e : Tree) → TypedUnder v us e → VariablesBelow n e → VariablesBelow n (mapped m e)
    below_mapped n us (Leaf h) x l = l
    below_mapped n us (One (HTyApp k) a) x l =
        variables_over v w m morphism.types n true (One (HTyApp k) a) (app_over v us k a x) l
    below_mapped n us (One h a) x l = below_mapped n us a x.2 l
    below_mapped n us (Two h a b) x l = (below_mapped n us a x.2 l.0, below_mapped n (bound_types h a ++ us) b x.3 l.1)
    below_mapped n us (Three h a b c) x l = (below_mapped n us a x.2 l.0, below_mapped n us b x.3 l.1, below_mapped n us c x.4 l.2)

    pub formula_mapped : (n : ℕ) (e : Tree) → IsFormulaOver v [] n e → IsFormulaOver w [] n (mapped m e)
    formula_mapped n e h = record { sort = sort_mapped [] e h.typed ∙ h.sort; typed = typed_mapped [] e h.typed; parameters = parameters_mapped [] e h.typed h.parameters; variables = below_mapped n [] e h.typed h.variables }
