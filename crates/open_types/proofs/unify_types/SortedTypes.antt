-- A well-sorted tree of the sort of types is a type by its shape, and the other way round.
use Rattle.std.proofs.Common.{◌≡◌, true, false, inl, inr, Some, refl, sym, ap, subst, ◌∙◌}
use Rattle.trees.specs.Tree.{Tree, Leaf, One, Two, Three, Head, HTyVar, HTyRigid, HTyApp, HEnd, HCell, HNum, HTrue, HFalse}
use Rattle.trees.specs.declared.Sort.{Sort}
use Rattle.trees.specs.declared.Sort.TheVariants.{Kind}
use Rattle.trees.specs.declared.Sort.TheVariants as sort
use Rattle.trees.specs.Sorts.{sort_of, first_sort, WellSorted, IsList, IsListOf, LeafFits, Fits}
use Rattle.trees.proofs.Types.{OnlyTypes, only_types, kind_first}
use Rattle.open_types.specs.unify_types.Assigned.{IsType, IsTypeOrTypes, leaf_typed}
use Rattle.open_types.specs.unify_types.Pairs.{IsKind}

-- a leaf that is a type; one that is a list of types
leaf_type : (h : Head) → LeafFits h → sort_of (Leaf h) ≡ Kind → leaf_typed true h
leaf_type (HTyVar j) f e = tt
leaf_type (HTyRigid k) f e = tt
leaf_type HEnd f e = absurd (cc)
leaf_type (HNum z) f e = absurd (cc)
leaf_type HTrue f e = absurd (cc)
leaf_type HFalse f e = absurd (cc)
leaf_type _ f e = absurd f

leaf_list : (h : Head) → LeafFits h → IsList Kind (Leaf h) → leaf_typed false h
leaf_list HEnd f e = tt
leaf_list (HTyVar j) f e = absurd (cc (e.0))
leaf_list (HTyRigid k) f e = absurd (cc (e.0))
leaf_list (HNum z) f e = absurd (cc (e.0))
leaf_list HTrue f e = absurd (cc (e.0))
leaf_list HFalse f e = absurd (cc (e.0))
leaf_list _ f e = absurd f

one_type : (h : Head) (a : Tree) → WellSorted (One h a) → OnlyTypes (One h a) → (IsList Kind a → IsTypeOrTypes false a) → sort_of (One h a) ≡ Kind → IsTypeOrTypes true (One h a)
one_type (HTyApp k) a w o f e = (tt, f w.0)
one_type _ a w o f e = let q = o.0.1 in absurd (cc)

one_list : (h : Head) (a : Tree) → OnlyTypes (One h a) → IsList Kind (One h a) → IsTypeOrTypes false (One h a)
one_list (HTyApp k) a o e = absurd (cc (e.0))
one_list _ a o e = let q = o.0.1 in absurd (cc)

pair_no_type : (h : Head) (a b : Tree) → OnlyTypes (Two h a b) → sort_of (Two h a b) ≡ Kind → ⊥
pair_no_type HCell a b o e = cc
pair_no_type _ a b o e = let q = o.0 in cc

-- a list of types begins with a type, and goes on as one
cell_kinds : (h : Head) (a b : Tree) → Fits (Two h a b) → OnlyTypes (Two h a b) → IsList Kind (Two h a b) → (h ≡ HCell) × ((sort_of a ≡ Kind) × IsList Kind b)
cell_kinds HCell a b f o p = let k : sort_of a ≡ Kind = kind_first (sort_of a) p.1 in (refl, (k, rw k at f.0.1))
cell_kinds _ a b f o p = let q = o.0 in absurd (cc)

mutual
  sorted_type : (e : Tree) → WellSorted e → OnlyTypes e → sort_of e ≡ Kind → IsTypeOrTypes true e
  sorted_type (Leaf h) w o e = leaf_type h w e
  sorted_type (One h a) w o e = one_type h a w o (λ l. sorted_list a w.1 o.1 l) e
  sorted_type (Two h a b) w o e = absurd (pair_no_type h a b o e)
  sorted_type (Three h a b c) w o e = absurd o

  sorted_list : (e : Tree) → WellSorted e → OnlyTypes e → IsList Kind e → IsTypeOrTypes false e
  sorted_list (Leaf h) w o e = leaf_list h w e
  sorted_list (One h a) w o e = one_list h a o e
  sorted_list (Two h a b) w o e =
      let k = cell_kinds h a b w.0 o e in
      (rw k.0 tt, sorted_type a w.1 o.1 k.1.0, sorted_list b w.2 o.2 k.1.1)
  sorted_list (Three h a b c) w o e = absurd o

pub kind_is_type : (e : Tree) → WellSorted e → sort_of e ≡ Kind → IsType e
kind_is_type e w k = sorted_type e w (only_types e w (inl k)) k

-- and the other way round
mutual
  type_kind : (e : Tree) → IsTypeOrTypes true e → WellSorted e × (sort_of e ≡ Kind)
  type_kind (Leaf (HTyVar j)) t = (tt, refl)
  type_kind (Leaf (HTyRigid k)) t = (tt, refl)
  type_kind (Leaf _) t = absurd t
  type_kind (One (HTyApp k) a) t = let l = list_kind a t.1 in ((l.1, l.0), refl)
  type_kind (One _ a) t = absurd t.0
  type_kind (Two h a b) t = absurd t.0
  type_kind (Three h a b c) t = absurd t

  list_kind : (e : Tree) → IsTypeOrTypes false e → WellSorted e × IsList Kind e
  list_kind (Leaf HEnd) t = (tt, (refl, inl refl))
  list_kind (Leaf _) t = absurd t
  list_kind (One h a) t = absurd t.0
  list_kind (Two HCell a b) t =
      let x = type_kind a t.1 in
      let y = list_kind b t.2 in
      let rest : IsListOf (sort_of a) (sort_of b) (first_sort b) = subst (λ (z : Sort). IsListOf z (sort_of b) (first_sort b)) (sym x.1) y.1 in
      ((((λ q. let z : Kind ≡ sort.List = sym x.1 ∙ q in cc, rest), tt), x.0, y.0), (refl, inr (ap (λ (z : Sort). Some z) x.1)))
  list_kind (Two _ a b) t = absurd t.0
  list_kind (Three h a b c) t = absurd t

pub type_is_kind : (e : Tree) → IsType e → IsKind e
type_is_kind e t = type_kind e t
