-- The type variables of the driving instances of a formula are below those of the formula.
use Rattle.std.proofs.Common.{◌≡◌, ◌≤◌, ℕ, suc, Bool, true, false, if◌then◌else◌, List, [], ◌∷◌, ◌++◌, Option, Some, None, refl, subst, arith}
use Rattle.std.specs.Prelude.{All}
use Rattle.std.proofs.lemmas.List.Elements.{All-cons, All-nil, All-append, All-push, All-filter}
use Rattle.tasks.specs.trees.Tree.{Tree, Leaf, One, Two, Three, Head, HBound, HParam, HNum, HFun, HPred, HEq, HLet, HIf, HCase, HArm, HCell, HPatAny, HPatVar, HPatCon, HPatAlias, head_of, above_ty_vars}
use Rattle.tasks.specs.trees.Sorts.{yield_type, top_type, type_of, int_type}
use Rattle.name_tables.specs.Occurrences.{Occurrence}
use Rattle.name_tables.specs.Seen.{has, with_one, with_all}
use Rattle.tr_discriminate.specs.wanted_instances.Instances.{type_or_end, two_instance, three_instance, inner_instances}
use Rattle.tr_discriminate.specs.wanted_instances.Wanted.{is_of_symbol, occurring, of_symbols, named_suffice, driving}

pub with_all_have : (P : Occurrence → Type 0) (s os : List Occurrence) → All P s → All P os
    → All P (with_all s os)
with_all_have P s [] a b = a
with_all_have P s (o ∷ os) a b =
    with_all_have P (with_one s o) os (one (has s o)) (λ k d l. b (suc k) d (omega arith))
  where
    one : (c : Bool) → All P (if c then s else s ++ o ∷ [])
    one true = a
    one false = All-push P s o a (b 0 o (omega arith))

-- the type of what a list or a branch yields is no type of its own
pub some_top : (h : Head) (o : Option Tree) (ty : Tree) → top_type h o ≡ Some ty → o ≡ Some ty
some_top HCell o ty q = absurd (cc)
some_top HArm o ty q = absurd (cc)
some_top _ o ty q = q

pub same_some : (a b : Tree) → Some a ≡ Some b → a ≡ b
same_some a b q = cc

module _ (n : ℕ) where
  abbrev Below : Tree → Type 0
  Below e = above_ty_vars e ≤ n

  type_below : (e ty : Tree) → Below e → yield_type e ≡ Some ty → Below ty
  type_below (Leaf (HNum z)) ty l q = subst Below (same_some int_type ty q) (omega arith)
  type_below (Leaf _) ty l q = absurd (cc)
  type_below (One (HBound i) a) ty l q = subst Below (same_some a ty q) l
  type_below (One (HParam i) a) ty l q = subst Below (same_some a ty q) l
  type_below (One HPatAny a) ty l q = subst Below (same_some a ty q) l
  type_below (One HPatVar a) ty l q = subst Below (same_some a ty q) l
  type_below (One HPatAlias a) ty l q = type_below a ty l q
  type_below (One _ a) ty l q = absurd (cc)
  type_below (Two HCell a b) ty l q = type_below a ty (omega (arith, l)) q
  type_below (Two HLet a b) ty l q = type_below b ty (omega (arith, l)) q
  type_below (Two HCase a b) ty l q = type_below b ty (omega (arith, l)) q
  type_below (Two HArm a b) ty l q = type_below b ty (omega (arith, l)) q
  type_below (Two _ a b) ty l q = absurd (cc)
  type_below (Three (HFun f) a b c) ty l q = subst Below (same_some c ty q) (omega (arith, l))
  type_below (Three HIf a b c) ty l q = type_below b ty (omega (arith, l)) q
  type_below (Three (HPatCon k) a b c) ty l q = subst Below (same_some c ty q) (omega (arith, l))
  type_below (Three _ a b c) ty l q = absurd (cc)

  option_below : (o : Option Tree) → ((ty : Tree) → o ≡ Some ty → Below ty) → Below (type_or_end o)
  option_below None f = omega arith
  option_below (Some ty) f = f ty refl

  abbrev InstanceBelow : Occurrence → Type 0
  InstanceBelow o = Below o.types

  two_below : (h : Head) (a : Tree) → Below a → All InstanceBelow (two_instance h a)
  two_below (HPred p) a l = All-cons InstanceBelow _ [] l (All-nil InstanceBelow)
  two_below HEq a l = All-cons InstanceBelow _ []
      (option_below (type_of a)
      (λ ty q. type_below a ty l (some_top (head_of a) (yield_type a) ty q)))
      (All-nil InstanceBelow)
  two_below _ a l = All-nil InstanceBelow

  three_below : (h : Head) (a : Tree) → Below a → All InstanceBelow (three_instance h a)
  three_below (HFun f) a l = All-cons InstanceBelow _ [] l (All-nil InstanceBelow)
  three_below (HPatCon f) a l = All-cons InstanceBelow _ [] l (All-nil InstanceBelow)
  three_below _ a l = All-nil InstanceBelow

  instances_below : (e : Tree) → Below e → All InstanceBelow (inner_instances e)
  instances_below (Leaf h) l = All-nil InstanceBelow
  instances_below (One h a) l = instances_below a l
  instances_below (Two h a b) l =
      All-append InstanceBelow (two_instance h a) (inner_instances a ++ inner_instances b)
      (two_below h a (omega (arith, l)))
      (All-append InstanceBelow (inner_instances a) (inner_instances b)
      (instances_below a (omega (arith, l))) (instances_below b (omega (arith, l))))
  instances_below (Three h a b c) l =
      All-append InstanceBelow (three_instance h a)
      (inner_instances a ++ (inner_instances b ++ inner_instances c))
      (three_below h a (omega (arith, l)))
      (All-append InstanceBelow (inner_instances a) (inner_instances b ++ inner_instances c)
      (instances_below a (omega (arith, l)))
      (All-append InstanceBelow (inner_instances b) (inner_instances c)
      (instances_below b (omega (arith, l))) (instances_below c (omega (arith, l)))))

pub driving_below : (a : Tree) (n : ℕ) → above_ty_vars a ≤ n
    → All (λ (o : Occurrence). above_ty_vars o.types ≤ n) (driving a)
driving_below a n l = by (named_suffice a)
  where
    all : All (InstanceBelow n) (occurring a)
    all = with_all_have (InstanceBelow n) [] (inner_instances a) (All-nil (InstanceBelow n))
        (instances_below n a l)

    by : (b : Bool) → All (InstanceBelow n) (if b then of_symbols a else occurring a)
    by true = All-filter is_of_symbol (InstanceBelow n) (occurring a) all
    by false = all
