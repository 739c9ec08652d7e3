-- Instances of open trees one after another, and rules that commute with types put in.
use Rattle.std.specs.Prelude.{◌≡◌, ℕ, ◌≤◌, false, List, [], ◌∷◌, map, length, get_or, Some, All}
use Rattle.trees.specs.declared.Sort.TheVariants.{Kind, Term}
use Rattle.trees.specs.Tree.{Tree, Leaf, One, Two, Three, Head, HForall, head_of, loose, pat_vars, above_params}
use Rattle.trees.specs.Binding.{change, inst, instantiating_many, inst_many, inst_types, TyVar, AreClosed, AreNoPatterns}
use Rattle.trees.specs.Sorts.{WellSorted, sort_of, type_of}
use Rattle.trees.specs.Facts.{is_open}
use Rattle.tasks.specs.Task.{TaskTree}
use Rattle.tasks.specs.Equations.{for_all}
use Rattle.tasks.specs.MatchTests.{test, bind}
use Rattle.tasks.specs.Vocabulary.{of_task}
use Rattle.tasks.specs.Typing.{TypedUnder}
use Rattle.tasks.specs.Valid.{VariablesBelow, IsTypeOver, IsValid}
use Rattle.images.specs.Open.{IsEnvironment, IsOpenUnder}
use Rattle.images.specs.Templates.{IsClosedType}
use Rattle.images.specs.Images.{image, IsOtherHead}
use Rattle.images.specs.PatternTerms.{IsTypedPattern}

-- each is closed
abbrev pub AreTypesClosed : List Tree → Type 0
AreTypesClosed [] = Unit {0}
AreTypesClosed (ty ∷ types) = (loose ty ≡ 0) × AreTypesClosed types

abbrev pub forall_body_at : Head → Tree → Tree → Tree
forall_body_at HForall b t = inst b t
forall_body_at _ b t = b

-- a universal formula at terms, one quantifier after another
abbrev pub for_all_at : Tree → List Tree → Tree
for_all_at e [] = e
for_all_at (Two h ty b) (t ∷ ts) = for_all_at (forall_body_at h b t) ts
for_all_at e (t ∷ ts) = e

-- a rule commutes with these types at each node over the images of its parts
abbrev pub CommutesWith : (Tree → Tree) → List Tree → Tree → Type 0
CommutesWith f tys (Leaf h) = f (inst_types (Leaf h) tys) ≡ inst_types (f (Leaf h)) tys
CommutesWith f tys (One h a) =
    (f (inst_types (One h (image f a)) tys) ≡ inst_types (f (One h (image f a))) tys)
    × CommutesWith f tys a
CommutesWith f tys (Two h a b) =
    (f (inst_types (Two h (image f a) (image f b)) tys)
    ≡ inst_types (f (Two h (image f a) (image f b))) tys) × CommutesWith f tys a
    × CommutesWith f tys b
CommutesWith f tys (Three h a b c) =
    (f (inst_types (Three h (image f a) (image f b) (image f c)) tys)
    ≡ inst_types (f (Three h (image f a) (image f b) (image f c))) tys) × CommutesWith f tys a
    × CommutesWith f tys b × CommutesWith f tys c

-- ---- the laws
-- open terms for all open variables, and then closed ones: the terms at the closed ones, put in
abbrev pub InstancesCompose : Type 0
InstancesCompose = (us ts : List Tree) (e : Tree) → AreClosed us → AreNoPatterns ts
    → loose e ≤ length ts → inst_many (inst_many e ts) us
    ≡ inst_many e (map (λ t. inst_many t us) ts)

-- quantifiers at closed terms, one after another
abbrev pub QuantifiersOpen : Type 0
QuantifiersOpen = (types ts : List Tree) (e : Tree) → AreTypesClosed types → AreClosed ts
    → length ts ≡ length types → for_all_at (for_all types e) ts ≡ inst_many e ts

-- a variable that isn't open doesn't depend on what is put in for it
abbrev pub LoweredAreAt : Type 0
LoweredAreAt = (env : List Tree) (b x c : Tree) → AreClosed env → is_open 0 b ≡ false → loose c ≡ 0
    → pat_vars c ≡ 0 → inst_many (inst b x) env ≡ inst (change (instantiating_many env) 1 b) c

-- the image of a tree at types is the tree's image at them
abbrev pub ImagesAreAtTypes : Type 0
ImagesAreAtTypes =
    (f : Tree → Tree) → ((e : Tree) → IsOtherHead (head_of e) → f e ≡ e) → (tys : List Tree)
    → ((j : ℕ) → WellSorted (get_or tys j (TyVar j))
    × (sort_of (get_or tys j (TyVar j)) ≡ Kind)) → (e : Tree) → CommutesWith f tys e
    → image f (inst_types e tys) ≡ inst_types (image f e) tys

-- the test of a pattern and the terms for its variables, at types
abbrev pub TestsAreAtTypes : Type 0
TestsAreAtTypes = (t : TaskTree) → IsValid t → (tys types : List Tree) (p s : Tree)
    → IsTypedPattern t types p
    → inst_types (test t p s) tys ≡ test t (inst_types p tys) (inst_types s tys)

abbrev pub BindsAreAtTypes : Type 0
BindsAreAtTypes = (t : TaskTree) → IsValid t → (tys types : List Tree) (p s : Tree)
    → IsTypedPattern t types p
    → map (λ e. inst_types e tys) (bind t p s) ≡ bind t (inst_types p tys) (inst_types s tys)

-- ---- an open tree at types, and then at closed terms
-- in a valid task, of a tree typed under binders, the one made of it is closed, typed, ground and
-- has parameters below the same number, and a term has its type, at these types
pub record IsInstanceAtTypes (tys env : List Tree) (e made : Tree) : Type 0 where
  pub sort : sort_of made ≡ sort_of e
  pub shape : (t : TaskTree) (types : List Tree) (n : ℕ) → IsValid t → All (IsTypeOver t 0) tys
      → IsEnvironment t (map (λ ty. inst_types ty tys) types) env n → TypedUnder (of_task t) types e
      → VariablesBelow (length tys) e → above_params e ≤ n
      → IsOpenUnder t [] made n
  pub type : (t : TaskTree) (types : List Tree) (n : ℕ) → IsValid t → All (IsTypeOver t 0) tys
      → IsEnvironment t (map (λ ty. inst_types ty tys) types) env n → TypedUnder (of_task t) types e
      → (ty : Tree) → IsClosedType (of_task t) ty → sort_of e ≡ Term
      → type_of e ≡ Some ty → type_of made ≡ Some (inst_types ty tys)
