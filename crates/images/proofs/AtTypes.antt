-- An open tree at types and then at closed terms: what it keeps.
use Rattle.std.proofs.Common.{◌≡◌, ℕ, zero, suc, ◌<◌, ◌≤◌, inl, List, [], ◌∷◌, map, length, get_or, max, All, subst, refl, sym, ◌∙◌, arith}
use Rattle.trees.specs.declared.TermId.{TermId}
use Rattle.trees.specs.Tree.{Tree, Leaf, One, Two, Three, Head, HTyVar, HBound, HParam, HEq, above_params, one_params}
use Rattle.trees.specs.Node.{tree_at, trees_at, Holds}
use Rattle.trees.specs.Binding.{inst_many, inst_types, instantiating_many, Param, TyVar, AreClosed}
use Rattle.trees.specs.Sorts.{WellSorted, sort_of}
use Rattle.trees.specs.Facts.{IndicesFit}
use Rattle.trees.proofs.Instances.{inst_two}
use Rattle.trees.proofs.RaisesNoIndex.{closed_many_fits}
use Rattle.trees.proofs.Sizes.{sorted_fits}
use Rattle.trees.specs.laws.Sorts.{sort_of-change}
use Rattle.trees.proofs.Types.{only_types}
use Rattle.trees.specs.binders.Visits.{HoldTerms, sorts_many}
use Rattle.tasks.specs.Task.{TaskTree}
use Rattle.tasks.specs.Vocabulary.{of_task}
use Rattle.tasks.specs.Typing.{TypedUnder}
use Rattle.tasks.specs.Valid.{VariablesBelow, LeafBelow, IsGround, IsTypeOver}
use Rattle.tasks.proofs.Closing.{typed_sorted}
use Rattle.tasks.proofs.TypeInstances.{typed_types, sound_task}
use Rattle.tasks.proofs.typed_trees.instances.Typed.{kind_typed, many_type}
use Rattle.images.specs.Instances.{IsInstanceAtTypes}
use Rattle.images.proofs.Environments.{at_open}
use Rattle.images.proofs.TypesAt.{types_above}

-- types that are put in add no parameter
module _ (tys : List Tree) (none : (j : ℕ) → above_params (get_or tys j (TyVar j)) ≡ 0) where
  one_above : (h : Head) (a b : Tree) (n : ℕ) → above_params a ≤ above_params b → one_params h (above_params b) ≤ n → one_params h (above_params a) ≤ n
  one_above (HParam i) a b n l k = omega (arith, l, k)
  one_above _ a b n l k = omega (arith, l, k)

  above_types : (e : Tree) → above_params (inst_types e tys) ≤ above_params e
  above_types (Leaf (HTyVar j)) = omega (arith, none j)
  above_types (Leaf _) = omega arith
  above_types (One (HBound i) a) = above_types a
  above_types (One (HParam n) a) = omega (arith, above_types a)
  above_types (One h a) = one_above h (inst_types a tys) a (one_params h (above_params a)) (above_types a) (omega arith)
  above_types (Two h a b) = subst (λ (z : Tree). above_params z ≤ max (above_params a) (above_params b)) (sym (inst_two tys h a b)) (omega (arith, above_types a, above_types b))
  above_types (Three h a b c) = omega (arith, above_types a, above_types b, above_types c)

-- and no type variable, where each is ground
module _ (tys : List Tree) (ground : (j : ℕ) (e : Tree) → j < length tys → IsGround (get_or tys j e)) where
  leaf_ground : (h : Head) → LeafBelow (length tys) h → IsGround (inst_types (Leaf h) tys)
  leaf_ground (HTyVar j) l = ground j (TyVar j) l
  leaf_ground _ l = tt

  one_there : (h : Head) (a : Tree) → inst_types (One h a) tys ≡ One h (inst_types a tys)
  one_there (HBound i) a = refl
  one_there (HParam n) a = refl
  one_there _ a = refl

  ground_types : (e : Tree) → VariablesBelow (length tys) e → IsGround (inst_types e tys)
  ground_types (Leaf h) b = leaf_ground h b
  ground_types (One h a) b = subst IsGround (sym (one_there h a)) (ground_types a b)
  ground_types (Two h a b) v = subst IsGround (sym (inst_two tys h a b)) (ground_types a v.0, ground_types b v.1)
  ground_types (Three h a b c) v = (ground_types a v.0, ground_types b v.1, ground_types c v.2)

no_parameters : (t : TaskTree) (tys : List Tree) → All (IsTypeOver t 0) tys → (j : ℕ) (e : Tree) → above_params e ≡ 0 → above_params (get_or tys j e) ≡ 0
no_parameters t [] a j e n = n
no_parameters t (x ∷ xs) a zero e n = let o = a 0 e (omega arith) in types_above x (only_types x (typed_sorted (of_task t) [] x o.typed) (inl o.sort))
no_parameters t (x ∷ xs) a (suc j) e n = no_parameters t xs (λ i d l. a (suc i) d (omega arith)) j e n

module _ (tys env : List Tree) (e : Tree) (sorts : sort_of (inst_many (inst_types e tys) env) ≡ sort_of e) where
  pub is_at_types : IsInstanceAtTypes tys env e (inst_many (inst_types e tys) env)
  is_at_types = record {
    sort = sorts;
    shape = λ t types n valid good E x b l.
        at_open t (map (λ ty. inst_types ty tys) types) env n E (inst_types e tys) (record {
          typed = typed_types (of_task t) tys good (sound_task t valid) types e x;
          ground = ground_types tys (λ j z i. (good j z i).variables) e b;
          above = omega (arith, above_types tys (λ j. no_parameters t tys good j (TyVar j) refl) e, l);
        });
    type = λ t types n valid good E x ty k s q.
        let pair : TypedUnder (of_task t) types (Two HEq e (Param 0 ty)) = (((s, refl), tt), q, x, (k.0, tt, kind_typed (of_task t) [] types ty k.0 k.1)) in
        let both : TypedUnder (of_task t) (map (λ ty. inst_types ty tys) types) (inst_types (Two HEq e (Param 0 ty)) tys) = typed_types (of_task t) tys good (sound_task t valid) types (Two HEq e (Param 0 ty)) pair in
        many_type (of_task t) (map (λ ty. inst_types ty tys) types) env E.terms (inst_types e tys) (typed_types (of_task t) tys good (sound_task t valid) types e x) ∙ both.1;
  }

-- ---- numbers of a store
each_sorted : (s : List Tree) (ids : List TermId) → ((id : TermId) → Holds s id → WellSorted (tree_at s id)) → HoldTerms s ids → (j : ℕ) (x : Tree) → j < length (trees_at s ids) → WellSorted (get_or (trees_at s ids) j x)
each_sorted s [] w h j x l = absurd (omega arith)
each_sorted s (i ∷ ids) w h zero x l = w i h.0.0
each_sorted s (i ∷ ids) w h (suc j) x l = each_sorted s ids w h.1 j x (omega arith)

pub env_fits : (s : List Tree) (ids : List TermId) (e : Tree) → ((id : TermId) → Holds s id → WellSorted (tree_at s id)) → HoldTerms s ids → AreClosed (trees_at s ids) → WellSorted e → IndicesFit (inst_many e (trees_at s ids))
env_fits s ids e w h c k = closed_many_fits e (trees_at s ids) (sorted_fits e k) c (λ j x l. sorted_fits (get_or (trees_at s ids) j x) (each_sorted s ids w h j x l))

pub env_sort : (s : List Tree) (ids : List TermId) (e : Tree) → HoldTerms s ids → sort_of (inst_many e (trees_at s ids)) ≡ sort_of e
env_sort s ids e h = sort_of-change (instantiating_many (trees_at s ids)) (sorts_many s ids h) 0 e
