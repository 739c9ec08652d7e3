-- The types of the instances in a ground formula are types of the vocabulary, and so are the types
-- in them.
use Rattle.std.specs.Prelude.{◌≡◌, ℕ, List, [], ◌++◌, All, Option, Some, None, refl}
use Rattle.std.proofs.Common.{inl, inr, subst, arith}
use Rattle.std.proofs.lemmas.List.Elements.{All-cons, All-nil, All-append}
use Rattle.tasks.specs.trees.declared.Sort.TheVariants.{Kind}
use Rattle.tasks.specs.trees.Tree.{Tree, Leaf, One, Two, Three, Head, HTyVar, HTyRigid, HTyApp, HCell, HBound, HParam, HNum, HFun, HPred, HEq, HLet, HIf, HCase, HArm, HPatAny, HPatVar, HPatCon, HPatAlias, head_of}
use Rattle.tasks.specs.trees.Sorts.{sort_of, yield_type, type_of, int_type, IsList}
use Rattle.trees.proofs.Types.{OnlyTypes, only_types}
use Rattle.tasks.specs.Vocabulary.{Vocabulary}
use Rattle.tasks.specs.Typing.{bound_types, OneTyped, TypedUnder}
use Rattle.tasks.specs.Valid.{VariablesBelow, IsTypeIn}
use Rattle.tasks.proofs.Closing.{typed_sorted}
use Rattle.name_tables.specs.Occurrences.{Occurrence}
use Rattle.tr_discriminate.specs.wanted_instances.Instances.{equality_at, type_or_end, two_instance, three_instance, inner_instances, leaf_types, one_types, types_within}
use Rattle.tr_discriminate.specs.wanted_instances.lemmas.Driving.{some_top, same_some}

kind_one : (t : Vocabulary) (types more : List Tree) (h : Head) (a : Tree) (n : ℕ) → h ≡ HTyApp n
    → OneTyped t types h a → OneTyped t more h a
kind_one t types more (HBound i) a n q x = absurd (cc)
kind_one t types more (HTyApp k) a n q x = x
kind_one t types more _ a n q x = tt

-- a type is typed under any binders
only_typed : (t : Vocabulary) (types more : List Tree) (e : Tree) → OnlyTypes e
    → TypedUnder t types e → TypedUnder t more e
only_typed t types more (Leaf h) o x = x
only_typed t types more (One h a) o x =
    (x.0, kind_one t types more h a o.0.0 o.0.1 x.1, only_typed t types more a o.1 x.2)
only_typed t types more (Two h a b) o x = (
  x.0,
  x.1,
  only_typed t types more a o.1 x.2,
  only_typed t (bound_types h a ++ types)
      (bound_types h a ++ more) b o.2 x.3,
)
only_typed t types more (Three h a b c) o x = absurd o

module _ (v : Vocabulary) (int : IsTypeIn v 0 int_type) where
  abbrev pub Good : Tree → Type 0
  Good ty = IsTypeIn v 0 ty

  pub kind_good : (bs : List Tree) (ty : Tree) → sort_of ty ≡ Kind → TypedUnder v bs ty
      → VariablesBelow 0 ty → Good ty
  kind_good bs ty k x g = record {
    sort = k;
    typed =
        only_typed v bs [] ty (only_types ty (typed_sorted v bs ty x) (inl k)) x;
    variables = g;
  }

  -- the type of a ground term
  yield_good : (bs : List Tree) (e ty : Tree) → TypedUnder v bs e → VariablesBelow 0 e
      → yield_type e ≡ Some ty → Good ty
  yield_good bs (Leaf (HNum z)) ty x g q = subst Good (same_some int_type ty q) int
  yield_good bs (Leaf _) ty x g q = absurd (cc)
  yield_good bs (One (HBound i) a) ty x g q =
      subst Good (same_some a ty q) (kind_good bs a x.0.0 x.2 g)
  yield_good bs (One (HParam n) a) ty x g q =
      subst Good (same_some a ty q) (kind_good bs a x.0 x.2 g)
  yield_good bs (One HPatAny a) ty x g q = subst Good (same_some a ty q) (kind_good bs a x.0 x.2 g)
  yield_good bs (One HPatVar a) ty x g q = subst Good (same_some a ty q) (kind_good bs a x.0 x.2 g)
  yield_good bs (One HPatAlias a) ty x g q = yield_good bs a ty x.2 g q
  yield_good bs (One _ a) ty x g q = absurd (cc)
  yield_good bs (Two HCell a b) ty x g q = yield_good bs a ty x.2 g.0 q
  yield_good bs (Two HLet a b) ty x g q = yield_good (bound_types HLet a ++ bs) b ty x.3 g.1 q
  yield_good bs (Two HCase a b) ty x g q = yield_good bs b ty x.3 g.1 q
  yield_good bs (Two HArm a b) ty x g q = yield_good (bound_types HArm a ++ bs) b ty x.3 g.1 q
  yield_good bs (Two _ a b) ty x g q = absurd (cc)
  yield_good bs (Three (HFun f) a b c) ty x g q =
      subst Good (same_some c ty q) (kind_good bs c x.0.2 x.4 g.2)
  yield_good bs (Three HIf a b c) ty x g q = yield_good bs b ty x.3 g.1 q
  yield_good bs (Three (HPatCon k) a b c) ty x g q =
      subst Good (same_some c ty q) (kind_good bs c x.0.2 x.4 g.2)
  yield_good bs (Three _ a b c) ty x g q = absurd (cc)

  -- the types in a type, or in a list of types
  abbrev pub GoodType : Occurrence → Type 0
  GoodType o = Good o.types

  leaf_good : (h : Head) → TypedUnder v [] (Leaf h) → VariablesBelow 0 (Leaf h)
      → All GoodType (leaf_types h)
  leaf_good (HTyVar j) x g = absurd (omega (arith, g))
  leaf_good (HTyRigid k) x g =
      All-cons GoodType (equality_at (Leaf (HTyRigid k))) []
      (record { sort = refl; typed = x; variables = g }) (All-nil GoodType)
  leaf_good _ x g = All-nil GoodType

  one_good : (h : Head) (a : Tree) → TypedUnder v [] (One h a) → VariablesBelow 0 a
      → All GoodType (one_types h a)
  one_good (HTyApp k) a x g =
      All-cons GoodType (equality_at (One (HTyApp k) a)) []
      (record { sort = refl; typed = x; variables = g }) (All-nil GoodType)
  one_good _ a x g = All-nil GoodType

  parts_good : (bs : List Tree) (e : Tree) → TypedUnder v bs e → VariablesBelow 0 e → OnlyTypes e
      → All GoodType (types_within e)
  parts_good bs (Leaf h) x g o = leaf_good h x g
  parts_good bs (One h a) x g o =
      All-append GoodType (types_within a) (one_types h a) (parts_good bs a x.2 g o.1)
      (one_good h a (only_typed v bs [] (One h a) o x) g)
  parts_good bs (Two h a b) x g o =
      All-append GoodType (types_within a) (types_within b) (parts_good bs a x.2 g.0 o.1)
      (parts_good (bound_types h a ++ bs) b x.3 g.1 o.2)
  parts_good bs (Three h a b c) x g o = absurd o

  -- what an instance's types are: a list of types, or the type of the sides of `=`
  pub record IsGoodInstance (o : Occurrence) : Type 0 where
    pub only : OnlyTypes o.types
    pub binders : List Tree
    pub typed : TypedUnder v binders o.types
    pub variables : VariablesBelow 0 o.types

  list_good : (bs : List Tree) (f : ℕ) (a : Tree) → IsList Kind a → TypedUnder v bs a
      → VariablesBelow 0 a → IsGoodInstance (record { symbol = f; types = a })
  list_good bs f a l x g = record {
    only = only_types a (typed_sorted v bs a x) (inr l);
    binders =
        bs;
    typed = x;
    variables = g;
  }

  equality_good : (o : Option Tree) → ((ty : Tree) → o ≡ Some ty → Good ty)
      → IsGoodInstance (equality_at (type_or_end o))
  equality_good None f = record { only = tt; binders = []; typed = (tt, tt); variables = tt }
  equality_good (Some ty) f =
      let k = f ty refl in
      record {
        only = only_types ty (typed_sorted v [] ty k.typed) (inl k.sort);
        binders =
            [];
        typed = k.typed;
        variables = k.variables;
      }

  two_good : (bs : List Tree) (h : Head) (a b : Tree) → TypedUnder v bs (Two h a b)
      → VariablesBelow 0 (Two h a b) → All IsGoodInstance (two_instance h a)
  two_good bs (HPred p) a b x g =
      All-cons IsGoodInstance _ [] (list_good bs p a x.0.0.0 x.2 g.0) (All-nil IsGoodInstance)
  two_good bs HEq a b x g = All-cons IsGoodInstance _ []
      (equality_good (type_of a)
      (λ ty q. yield_good bs a ty x.2 g.0 (some_top (head_of a) (yield_type a) ty q)))
      (All-nil IsGoodInstance)
  two_good bs _ a b x g = All-nil IsGoodInstance

  three_good : (bs : List Tree) (h : Head) (a b c : Tree) → TypedUnder v bs (Three h a b c)
      → VariablesBelow 0 (Three h a b c) → All IsGoodInstance (three_instance h a)
  three_good bs (HFun f) a b c x g =
      All-cons IsGoodInstance _ [] (list_good bs f a x.0.0 x.2 g.0) (All-nil IsGoodInstance)
  three_good bs (HPatCon f) a b c x g =
      All-cons IsGoodInstance _ [] (list_good bs f a x.0.0 x.2 g.0) (All-nil IsGoodInstance)
  three_good bs _ a b c x g = All-nil IsGoodInstance

  pub instances_good : (bs : List Tree) (e : Tree) → TypedUnder v bs e → VariablesBelow 0 e
      → All IsGoodInstance (inner_instances e)
  instances_good bs (Leaf h) x g = All-nil IsGoodInstance
  instances_good bs (One h a) x g = instances_good bs a x.2 g
  instances_good bs (Two h a b) x g =
      All-append IsGoodInstance (two_instance h a) (inner_instances a ++ inner_instances b)
      (two_good bs h a b x g)
      (All-append IsGoodInstance (inner_instances a) (inner_instances b)
      (instances_good bs a x.2 g.0) (instances_good (bound_types h a ++ bs) b x.3 g.1))
  instances_good bs (Three h a b c) x g =
      All-append IsGoodInstance (three_instance h a)
      (inner_instances a ++ (inner_instances b ++ inner_instances c))
      (three_good bs h a b c x g)
      (All-append IsGoodInstance (inner_instances a) (inner_instances b ++ inner_instances c)
      (instances_good bs a x.2 g.0)
      (All-append IsGoodInstance (inner_instances b) (inner_instances c)
      (instances_good bs b x.3 g.1) (instances_good bs c x.4 g.2)))

  -- and the types in them
  pub instance_parts : (o : Occurrence) → IsGoodInstance o → All GoodType (types_within o.types)
  instance_parts o g = parts_good g.binders o.types g.typed g.variables g.only
