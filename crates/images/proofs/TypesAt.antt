-- A type at types, which may have type variables: it is a typed type where they are, and has their type variables alone. A type has
-- no parameters.
use Rattle.std.proofs.Common.{◌≡◌, ℕ, zero, suc, ◌<◌, inl, List, [], length, get_or, subst, refl, sym, ap, arith}
use Rattle.trees.specs.declared.Sort.{Sort}
use Rattle.trees.specs.declared.Sort.TheVariants.{Kind}
use Rattle.trees.specs.Tree.{Tree, Leaf, One, Two, Three, Head, HTyVar, HTyApp, HCell, above_params}
use Rattle.trees.specs.Binding.{typing, inst_types, TyVar}
use Rattle.trees.specs.Sorts.{WellSorted, sort_of, IsListOf, IsList, first_sort}
use Rattle.trees.specs.Facts.{PutsSorts}
use Rattle.trees.specs.laws.Sorts.{sort_of-change, one_fits, two_fits}
use Rattle.trees.proofs.Types.{OnlyTypes, only_types, kind_first}
use Rattle.tasks.specs.Vocabulary.{Vocabulary}
use Rattle.tasks.specs.Typing.{members, IsTypeSymbol, TypedUnder}
use Rattle.tasks.specs.Valid.{VariablesBelow, ParametersOf}
use Rattle.tasks.proofs.Closing.{typed_sorted}
use Rattle.tasks.proofs.typed_trees.instances.Typed.{kind_typed}

-- a closed type, which may have type variables
abbrev pub IsTypeHere : Vocabulary → Tree → Type 0
IsTypeHere v e = (sort_of e ≡ Kind) × TypedUnder v [] e

-- ---- parameters
pub types_above : (e : Tree) → OnlyTypes e → above_params e ≡ 0
types_above (Leaf h) o = refl
types_above (One h a) o = rw o.0.1 (types_above a o.1)
types_above (Two h a b) o = omega (arith, types_above a o.1, types_above b o.2)
types_above (Three h a b c) o = absurd o

pub types_parameters : (ps : List Tree) (e : Tree) → OnlyTypes e → ParametersOf ps e
types_parameters ps (Leaf h) o = tt
types_parameters ps (One h a) o = rw o.0.1 (tt, types_parameters ps a o.1)
types_parameters ps (Two h a b) o = (types_parameters ps a o.1, types_parameters ps b o.2)
types_parameters ps (Three h a b c) o = absurd o

-- ---- the members of a list of types
module _ (v : Vocabulary) (types : List Tree) where
  pub member_type : (a : Tree) → IsList Kind a → TypedUnder v types a → (j : ℕ) (e : Tree) → IsTypeHere v e → IsTypeHere v (get_or (members a) j e)
  member_type (Leaf h) l x j e k = k
  member_type (One h a) l x j e k = k
  member_type (Two HCell a b) l x zero e k = let q : sort_of a ≡ Kind = kind_first (sort_of a) l.1 in (q, kind_typed v types [] a q x.2)
  member_type (Two HCell a b) l x (suc j) e k =
      let q : sort_of a ≡ Kind = kind_first (sort_of a) l.1 in
      member_type b (subst (λ (s : Sort). IsListOf s (sort_of b) (first_sort b)) q x.0.0.1) x.3 j e k
  member_type (Two _ a b) l x j e k = k
  member_type (Three h a b c) l x j e k = k

pub member_variables : (n : ℕ) (a : Tree) → VariablesBelow n a → (j : ℕ) (e : Tree) → j < length (members a) → VariablesBelow n (get_or (members a) j e)
member_variables n (Leaf h) b j e l = absurd (omega arith)
member_variables n (One h a) b j e l = absurd (omega arith)
member_variables n (Two HCell a c) b zero e l = b.0
member_variables n (Two HCell a c) b (suc j) e l = member_variables n c b.1 j e (omega arith)
member_variables n (Two _ a c) b j e l = absurd (omega arith)
member_variables n (Three h a c d) b j e l = absurd (omega arith)

module _ (v : Vocabulary) (tys : List Tree) (each : (j : ℕ) → IsTypeHere v (get_or tys j (TyVar j))) where
  abbrev at : Tree → Tree
  at e = inst_types e tys

  puts : PutsSorts (typing tys)
  puts = record { bound = λ _ _ _. refl; param = λ _ _ _. refl; ty_var = λ j. (each j).0 }

  pub sort_at_types : (e : Tree) → sort_of (at e) ≡ sort_of e
  sort_at_types e = sort_of-change (typing tys) puts 0 e

  -- a list has as many members there
  members_count : (e : Tree) → IsList Kind e → OnlyTypes e → WellSorted e → length (members (at e)) ≡ length (members e)
  members_count (Leaf (HTyVar j)) l o w = absurd (let q = l.0 in cc)
  members_count (Leaf _) l o w = refl
  members_count (One h a) l o w = rw o.0.1 refl
  members_count (Two HCell a b) l o w =
      let q : sort_of a ≡ Kind = kind_first (sort_of a) l.1 in
      ap suc (members_count b (subst (λ (s : Sort). IsListOf s (sort_of b) (first_sort b)) q w.0.0.1) o.2 w.2)
  members_count (Two _ a b) l o w = refl
  members_count (Three h a b c) l o w = refl

  one_typed : (types : List Tree) (h : Head) (a : Tree) (n : ℕ) → h ≡ HTyApp n → OnlyTypes a → WellSorted (One h a) → TypedUnder v [] (One h a) → (TypedUnder v [] a → TypedUnder v types (at a)) → TypedUnder v types (at (One h a))
  one_typed types (HTyApp m) a n q o w x f = (one_fits (typing tys) puts 0 (HTyApp m) a x.0, subst (λ (k : ℕ). IsTypeSymbol v m k) (sym (members_count a x.0 o w.1)) x.1, f x.2)
  one_typed types _ a n q o w x f = absurd (cc)

  two_typed : (types : List Tree) (h : Head) (a b : Tree) → h ≡ HCell → TypedUnder v [] (Two h a b) → (TypedUnder v [] a → TypedUnder v types (at a)) → (TypedUnder v [] b → TypedUnder v types (at b)) → TypedUnder v types (at (Two h a b))
  two_typed types HCell a b q x f g = (two_fits (typing tys) puts 0 0 HCell a b x.0, tt, f x.2, g x.3)
  two_typed types _ a b q x f g = absurd (cc)

  only_typed : (types : List Tree) (e : Tree) → OnlyTypes e → WellSorted e → TypedUnder v [] e → TypedUnder v types (at e)
  only_typed types (Leaf (HTyVar j)) o w x = kind_typed v [] types (get_or tys j (TyVar j)) (each j).0 (each j).1
  only_typed types (Leaf _) o w x = x
  only_typed types (One h a) o w x = one_typed types h a o.0.0 o.0.1 o.1 w x (λ y. only_typed types a o.1 w.1 y)
  only_typed types (Two h a b) o w x = two_typed types h a b o.0 x (λ y. only_typed types a o.1 w.1 y) (λ y. only_typed types b o.2 w.2 y)
  only_typed types (Three h a b c) o w x = absurd o

  -- a closed type there
  pub type_here : (types : List Tree) (e : Tree) → sort_of e ≡ Kind → TypedUnder v [] e → TypedUnder v types (at e)
  type_here types e k x = let w = typed_sorted v [] e x in only_typed types e (only_types e w (inl k)) w x

  module _ (n : ℕ) (below : (j : ℕ) → j < length tys → VariablesBelow n (get_or tys j (TyVar j))) where
    only_variables : (e : Tree) → OnlyTypes e → VariablesBelow (length tys) e → VariablesBelow n (at e)
    only_variables (Leaf (HTyVar j)) o b = below j b
    only_variables (Leaf _) o b = b
    only_variables (One h a) o b = rw o.0.1 (only_variables a o.1 b)
    only_variables (Two h a b) o l = rw o.0 (only_variables a o.1 l.0, only_variables b o.2 l.1)
    only_variables (Three h a b c) o l = absurd o

    pub variables_here : (e : Tree) → sort_of e ≡ Kind → WellSorted e → VariablesBelow (length tys) e → VariablesBelow n (at e)
    variables_here e k w b = only_variables e (only_types e w (inl k)) b
