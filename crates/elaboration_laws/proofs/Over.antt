-- Types over a vocabulary, by their shape: what they are at assigned unknowns and at the types of a use.
use Rattle.std.proofs.Common.{◌≡◌, ◌≢◌, ℕ, suc, Bool, true, false, cond, nat_lt, List, [], ◌∷◌, ◌++◌, length, Some, inl, inr, refl, sym, ap, subst, ◌∙◌}
use Rattle.elab_groups.specs.trees.declared.Sort.{Sort}
use Rattle.elab_groups.specs.trees.declared.Sort.TheVariants.{Kind}
use Rattle.elab_groups.specs.trees.declared.Sort.TheVariants as sorts
use Rattle.elab_groups.specs.trees.Tree.{Tree, Leaf, One, Two, Three, Head, HTyVar, HTyRigid, HTyApp, HEnd, HCell}
use Rattle.elab_groups.specs.trees.Sorts.{sort_of, first_sort, IsList, IsListOf}
use Rattle.elab_groups.specs.tasks.Equations.{cells}
use Rattle.elab_groups.specs.tasks.Vocabulary.{Vocabulary}
use Rattle.elab_groups.specs.tasks.Typing.{members, IsRigid, IsTypeSymbol, bound_types, TypedUnder}
use Rattle.elab_groups.specs.tasks.Valid.{IsTypeIn, ParametersOf}
use Rattle.elab_groups.proofs.tasks.Closing.{typed_sorted}
use Rattle.elab_groups.specs.open_types.unify_types.Assigned.{Variable, assign, IsTypeOrTypes}
use Rattle.elab_groups.proofs.open_types.unify_types.SortedTypes.{kind_is_type}
pub use Rattle.elab_groups.proofs.open_types.Fielding.{members_cells}

abbrev pub leaf_over : Vocabulary → Bool → Head → Type 0
leaf_over v true (HTyVar j) = Unit {0}
leaf_over v true (HTyRigid k) = IsRigid v k
leaf_over v false HEnd = Unit {0}
leaf_over v _ _ = ⊥

abbrev pub one_over : Vocabulary → Bool → Head → ℕ → Type 0
one_over v true (HTyApp k) n = IsTypeSymbol v k n
one_over v _ _ n = ⊥

abbrev pub two_over : Bool → Head → Type 0
two_over false HCell = Unit {0}
two_over _ _ = ⊥

-- a type over the vocabulary, or with `false` a list of types
abbrev pub IsOver : Vocabulary → Bool → Tree → Type 0
IsOver v k (Leaf h) = leaf_over v k h
IsOver v k (One h a) = one_over v k h (length (members a)) × IsOver v false a
IsOver v k (Two h a b) = two_over k h × IsOver v true a × IsOver v false b
IsOver v k (Three h a b c) = ⊥

-- well typed, without parameters
abbrev pub IsGood : Vocabulary → List Tree → Tree → Type 0
IsGood v types e = TypedUnder v types e × ParametersOf [] e

-- ---- from typing and back
module _ (v : Vocabulary) where
  leaf_typed_over : (k : Bool) (types : List Tree) (h : Head) → IsTypeOrTypes k (Leaf h) → TypedUnder v types (Leaf h) → leaf_over v k h
  leaf_typed_over true types (HTyVar j) t x = tt
  leaf_typed_over false types (HTyVar j) t x = absurd t
  leaf_typed_over true types (HTyRigid k) t x = x.1
  leaf_typed_over false types (HTyRigid k) t x = absurd t
  leaf_typed_over true types HEnd t x = absurd t
  leaf_typed_over false types HEnd t x = tt
  leaf_typed_over true types _ t x = absurd t
  leaf_typed_over false types _ t x = absurd t

  one_typed_over : (k : Bool) (types : List Tree) (h : Head) (a : Tree) → IsTypeOrTypes k (One h a) → TypedUnder v types (One h a) → one_over v k h (length (members a))
  one_typed_over true types (HTyApp s) a t x = x.1
  one_typed_over true types _ a t x = absurd t.0
  one_typed_over false types _ a t x = absurd t.0

  two_typed_over : (k : Bool) (h : Head) (a b : Tree) → IsTypeOrTypes k (Two h a b) → two_over k h
  two_typed_over false HCell a b t = tt
  two_typed_over false _ a b t = absurd t.0
  two_typed_over true _ a b t = absurd t.0

  typed_over : (k : Bool) (types : List Tree) (e : Tree) → IsTypeOrTypes k e → TypedUnder v types e → IsOver v k e
  typed_over k types (Leaf h) t x = leaf_typed_over k types h t x
  typed_over k types (One h a) t x = (one_typed_over k types h a t x, typed_over false types a t.1 x.2)
  typed_over k types (Two h a b) t x = (two_typed_over k h a b t, typed_over true types a t.1 x.2, typed_over false (bound_types h a ++ types) b t.2 x.3)
  typed_over k types (Three h a b c) t x = t

  pub sorted_over : (e : Tree) → sort_of e ≡ Kind → TypedUnder v [] e → IsOver v true e
  sorted_over e k t = typed_over true [] e (kind_is_type e (typed_sorted v [] e t) k) t

  pub type_over : (n : ℕ) (e : Tree) → IsTypeIn v n e → IsOver v true e
  type_over n e t = sorted_over e t.sort t.typed

  abbrev pub IsSorted : Bool → Tree → Type 0
  IsSorted true e = sort_of e ≡ Kind
  IsSorted false e = IsList Kind e

  cell_list : (a b : Tree) → sort_of a ≡ Kind → IsList Kind b → (sort_of a ≢ sorts.List) × IsListOf (sort_of a) (sort_of b) (first_sort b)
  cell_list a b x y = ((λ q. let z : Kind ≡ sorts.List = sym x ∙ q in cc), subst (λ (z : Sort). IsListOf z (sort_of b) (first_sort b)) (sym x) y)

  leaf_good : (k : Bool) (types : List Tree) (h : Head) → leaf_over v k h → IsGood v types (Leaf h) × IsSorted k (Leaf h)
  leaf_good true types (HTyVar j) o = (((tt, tt), tt), refl)
  leaf_good false types (HTyVar j) o = absurd o
  leaf_good true types (HTyRigid k) o = (((tt, o), tt), refl)
  leaf_good false types (HTyRigid k) o = absurd o
  leaf_good true types HEnd o = absurd o
  leaf_good false types HEnd o = (((tt, tt), tt), (refl, inl refl))
  leaf_good true types _ o = absurd o
  leaf_good false types _ o = absurd o

  one_good : (k : Bool) (types : List Tree) (h : Head) (a : Tree) → one_over v k h (length (members a)) → IsGood v types a × IsList Kind a → IsGood v types (One h a) × IsSorted k (One h a)
  one_good true types (HTyApp s) a o g = (((g.1, o, g.0.0), (tt, g.0.1)), refl)
  one_good true types _ a o g = absurd o
  one_good false types _ a o g = absurd o

  two_good : (k : Bool) (types : List Tree) (h : Head) (a b : Tree) → two_over k h → IsGood v types a × (sort_of a ≡ Kind) → IsGood v types b × IsList Kind b → IsGood v types (Two h a b) × IsSorted k (Two h a b)
  two_good false types HCell a b o x y = ((((cell_list a b x.1 y.1, tt), tt, x.0.0, y.0.0), (x.0.1, y.0.1)), (refl, inr (ap (λ (z : Sort). Some z) x.1)))
  two_good false types _ a b o x y = absurd o
  two_good true types _ a b o x y = absurd o

  pub over_good : (k : Bool) (types : List Tree) (e : Tree) → IsOver v k e → IsGood v types e × IsSorted k e
  over_good k types (Leaf h) o = leaf_good k types h o
  over_good k types (One h a) o = one_good k types h a o.0 (over_good false types a o.1)
  over_good k types (Two h a b) o = two_good k types h a b o.0 (over_good true types a o.1) (over_good false types b o.2)
  over_good k types (Three h a b c) o = absurd o

  -- ---- lists
  abbrev pub AreOver : List Tree → Type 0
  AreOver [] = Unit {0}
  AreOver (t ∷ ts) = IsOver v true t × AreOver ts

  pub cells_over : (ts : List Tree) → AreOver ts → IsOver v false (cells ts)
  cells_over [] o = tt
  cells_over (t ∷ ts) o = (tt, o.0, cells_over ts o.1)

-- ---- at assigned unknowns
module _ (v : Vocabulary) (r : ℕ) (f : ℕ → Tree) where
  -- a list has as many members
  leaf_members : (h : Head) → leaf_over v false h → length (members (assign r f (Leaf h))) ≡ 0
  leaf_members HEnd o = refl
  leaf_members _ o = absurd o

  two_members : (h : Head) (a b : Tree) → two_over false h → length (members (assign r f b)) ≡ length (members b) → length (members (assign r f (Two h a b))) ≡ length (members (Two h a b))
  two_members HCell a b o q = ap suc q
  two_members _ a b o q = absurd o

  pub members_assigned : (e : Tree) → IsOver v false e → length (members (assign r f e)) ≡ length (members e)
  members_assigned (Leaf h) o = leaf_members h o
  members_assigned (One h a) o = absurd o.0
  members_assigned (Two h a b) o = two_members h a b o.0 (members_assigned b o.2)
  members_assigned (Three h a b c) o = absurd o

  module _ (types : (j : ℕ) → IsOver v true (f j)) where
    leaf_assigned_over : (k : Bool) (h : Head) → leaf_over v k h → IsOver v k (assign r f (Leaf h))
    leaf_assigned_over true (HTyVar j) o = of (nat_lt j r)
      where
        of : (b : Bool) → IsOver v true (cond b (Variable j) (f j))
        of true = tt
        of false = types j
    leaf_assigned_over false (HTyVar j) o = absurd o
    leaf_assigned_over true (HTyRigid k) o = o
    leaf_assigned_over false (HTyRigid k) o = absurd o
    leaf_assigned_over true HEnd o = absurd o
    leaf_assigned_over false HEnd o = tt
    leaf_assigned_over true _ o = absurd o
    leaf_assigned_over false _ o = absurd o

    one_assigned_over : (k : Bool) (h : Head) (a : Tree) → one_over v k h (length (members a)) → IsOver v false a → one_over v k h (length (members (assign r f a)))
    one_assigned_over true (HTyApp s) a o x = subst (λ (n : ℕ). IsTypeSymbol v s n) (sym (members_assigned a x)) o
    one_assigned_over true _ a o x = absurd o
    one_assigned_over false _ a o x = absurd o

    pub over_assigned : (k : Bool) (e : Tree) → IsOver v k e → IsOver v k (assign r f e)
    over_assigned k (Leaf h) o = leaf_assigned_over k h o
    over_assigned k (One h a) o = (one_assigned_over k h a o.0 o.1, over_assigned false a o.1)
    over_assigned k (Two h a b) o = (o.0, over_assigned true a o.1, over_assigned false b o.2)
    over_assigned k (Three h a b c) o = o
