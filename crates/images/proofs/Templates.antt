-- Trees with a hole are typed: the type of a typed term is a type, and a tree stays typed with the hole in the place of a term of
-- the hole's type.
use Rattle.std.proofs.Common.{◌≡◌, ℕ, ◌⊎◌, inl, inr, List, [], ◌∷◌, ◌++◌, map, Option, Some, None, subst, refl, sym, ap, ◌∙◌, arith}
use Rattle.trees.specs.declared.Sort.{Sort}
use Rattle.trees.specs.declared.Sort.TheVariants.{Kind, Term}
use Rattle.trees.specs.Tree.{Tree, Leaf, One, Two, Three, Head, HCell, HBound, HParam, HNum, HEnd, HTrue, HFalse, HNot, HJoin, HForall, HExists, HTyVar, HTyRigid, HTyApp, HFun, HPred, HEq, HLet, HIf, HCase, HArm, HPatAny, HPatVar, HPatCon, HPatAlias, head_of}
use Rattle.trees.specs.Binding.{Bound}
use Rattle.trees.specs.Sorts.{sort_of, yield_type, type_of, top_type, int_type, first_sort, IsListOf}
use Rattle.tasks.specs.Vocabulary.{Vocabulary}
use Rattle.tasks.specs.Typing.{TypedUnder, members, entry, option_list, pattern_types, BranchesFit, first_body}
use Rattle.images.specs.Templates.{listed, IsClosedType}
use Rattle.images.proofs.Images.{expression_sort, expression_type, leaf_no_list}
use Rattle.tasks.proofs.typed_trees.instances.Typed.{kind_typed}
use Rattle.tasks.proofs.TypeInstances.{typed_further, some_kept}
use Rattle.trees.proofs.Types.{one_no_cell, three_no_cell}

kept_first : (s : Sort) (o p : Option Sort) → p ≡ o → (o ≡ None) ⊎ (o ≡ Some s) → (p ≡ None) ⊎ (p ≡ Some s)
kept_first s o p q (inl n) = inl (q ∙ n)
kept_first s o p q (inr n) = inr (q ∙ n)

module _ (v : Vocabulary) where
  module _ (int : IsClosedType v int_type) where
    some_is : (types : List Tree) (a ty : Tree) → Some a ≡ Some ty → sort_of a ≡ Kind → TypedUnder v types a → IsClosedType v ty
    some_is types a ty q k x = let e : a ≡ ty = cc in subst (IsClosedType v) e (k, kind_typed v types [] a k x)

    yield_kind : (types : List Tree) (e ty : Tree) → TypedUnder v types e → yield_type e ≡ Some ty → IsClosedType v ty
    yield_kind types (Leaf (HNum z)) ty x q = let e : int_type ≡ ty = cc in subst (IsClosedType v) e int
    yield_kind types (Leaf _) ty x q = absurd (cc)
    yield_kind types (One (HBound i) a) ty x q = some_is types a ty q x.0.0 x.2
    yield_kind types (One (HParam n) a) ty x q = some_is types a ty q x.0 x.2
    yield_kind types (One HPatAny a) ty x q = some_is types a ty q x.0 x.2
    yield_kind types (One HPatVar a) ty x q = some_is types a ty q x.0 x.2
    yield_kind types (One HPatAlias a) ty x q = yield_kind types a ty x.2 q
    yield_kind types (One _ a) ty x q = absurd (cc)
    yield_kind types (Two HCell a b) ty x q = yield_kind types a ty x.2 q
    yield_kind types (Two HLet a b) ty x q = yield_kind (option_list (type_of a) ++ types) b ty x.3 q
    yield_kind types (Two HCase a b) ty x q = yield_kind types b ty x.3 q
    yield_kind types (Two HArm a b) ty x q = yield_kind (pattern_types a ++ types) b ty x.3 q
    yield_kind types (Two _ a b) ty x q = absurd (cc)
    yield_kind types (Three (HFun f) a b c) ty x q = some_is types c ty q x.0.2 x.4
    yield_kind types (Three HIf a b c) ty x q = yield_kind types b ty x.3 q
    yield_kind types (Three (HPatCon f) a b c) ty x q = some_is types c ty q x.0.2 x.4
    yield_kind types (Three _ a b c) ty x q = absurd (cc)

    top_some : (h : Head) (o : Option Tree) (ty : Tree) → top_type h o ≡ Some ty → o ≡ Some ty
    top_some HCell o ty q = absurd (cc)
    top_some HArm o ty q = absurd (cc)
    top_some _ o ty q = q

    -- the type of a typed tree is a type
    pub type_is_kind : (types : List Tree) (e ty : Tree) → TypedUnder v types e → type_of e ≡ Some ty → IsClosedType v ty
    type_is_kind types e ty x q = yield_kind types e ty x (top_some (head_of e) (yield_type e) ty q)

  -- a typed term has a type
  pub term_has_type : (types : List Tree) (e : Tree) → sort_of e ≡ Term → TypedUnder v types e → (ty : Tree) × (type_of e ≡ Some ty)
  term_has_type types (Leaf (HNum z)) s x = (int_type, refl)
  term_has_type types (Leaf HTrue) s x = absurd (cc)
  term_has_type types (Leaf HFalse) s x = absurd (cc)
  term_has_type types (Leaf HEnd) s x = absurd (cc)
  term_has_type types (Leaf (HTyVar j)) s x = absurd (cc)
  term_has_type types (Leaf (HTyRigid j)) s x = absurd (cc)
  term_has_type types (Leaf _) s x = absurd x.0
  term_has_type types (One (HBound i) a) s x = (a, refl)
  term_has_type types (One (HParam n) a) s x = (a, refl)
  term_has_type types (One HNot a) s x = absurd (cc)
  term_has_type types (One (HTyApp k) a) s x = absurd (cc)
  term_has_type types (One HPatAny a) s x = absurd (cc)
  term_has_type types (One HPatVar a) s x = absurd (cc)
  term_has_type types (One HPatAlias a) s x = absurd (cc)
  term_has_type types (One _ a) s x = absurd x.0
  term_has_type types (Two HLet a b) s x = let p = term_has_type (option_list (type_of a) ++ types) b (sym (expression_sort b x.0.0.1) ∙ s) x.3 in (p.0, sym (expression_type b x.0.0.1) ∙ p.1)
  term_has_type types (Two HCase a (Two HCell (Two HArm p e) b)) s x = let q = term_has_type (pattern_types p ++ types) e (sym (expression_sort e x.3.2.0.0.1) ∙ s) x.3.2.3 in (q.0, sym (expression_type e x.3.2.0.0.1) ∙ q.1)
  term_has_type types (Two HCase a (Two HCell c b)) s x = absurd x.1.0
  term_has_type types (Two HCase a (Two _ c b)) s x = absurd (let q = x.0.1 in cc)
  term_has_type types (Two HCase a (Leaf h)) s x = absurd (leaf_no_list h x.3.0 x.0.1)
  term_has_type types (Two HCase a (One h b)) s x = absurd (one_no_cell h b x.3.0 x.0.1)
  term_has_type types (Two HCase a (Three h b c d)) s x = absurd (three_no_cell h b c d x.3.0 x.0.1)
  term_has_type types (Two HCell a b) s x = absurd (cc)
  term_has_type types (Two HArm a b) s x = absurd (cc)
  term_has_type types (Two (HPred p) a b) s x = absurd (cc)
  term_has_type types (Two HEq a b) s x = absurd (cc)
  term_has_type types (Two (HJoin op) a b) s x = absurd (cc)
  term_has_type types (Two HForall a b) s x = absurd (cc)
  term_has_type types (Two HExists a b) s x = absurd (cc)
  term_has_type types (Two _ a b) s x = absurd x.0.0
  term_has_type types (Three (HFun f) a b c) s x = (c, refl)
  term_has_type types (Three HIf a b c) s x = let p = term_has_type types b (sym (expression_sort b x.0.1) ∙ s) x.3 in (p.0, sym (expression_type b x.0.1) ∙ p.1)
  term_has_type types (Three (HPatCon k) a b c) s x = absurd (cc)
  term_has_type types (Three _ a b c) s x = absurd x.0

  -- ---- holes
  module _ (ty : Tree) (k : IsClosedType v ty) where
    pub hole_typed : (more : List Tree) → TypedUnder v (ty ∷ more) (Bound 0 ty)
    hole_typed more = ((k.0, omega arith), refl, kind_typed v [] (ty ∷ more) ty k.0 k.1)

    pub let_typed : (t b : Tree) → type_of t ≡ Some ty → TypedUnder v [] (Two HLet t b) → TypedUnder v (ty ∷ []) (Two HLet (Bound 0 ty) b)
    let_typed t b q x =
        let y : TypedUnder v (ty ∷ []) b = subst (λ (o : Option Tree). TypedUnder v (option_list o ++ []) b) q x.3 in
        (((refl, x.0.0.1), tt), tt, hole_typed [], typed_further v (ty ∷ []) (ty ∷ []) b y)

    pub equal_left_typed : (t b : Tree) → type_of t ≡ Some ty → TypedUnder v [] (Two HEq t b) → TypedUnder v (ty ∷ []) (Two HEq (Bound 0 ty) b)
    equal_left_typed t b q x = (((refl, x.0.0.1), tt), sym q ∙ x.1, hole_typed [], typed_further v [] (ty ∷ []) b x.3)

    pub equal_right_typed : (a t : Tree) → type_of t ≡ Some ty → TypedUnder v [] (Two HEq a t) → TypedUnder v (ty ∷ []) (Two HEq a (Bound 0 ty))
    equal_right_typed a t q x = (((x.0.0.0, refl), tt), x.1 ∙ q, typed_further v [] (ty ∷ []) a x.2, hole_typed [])

    pub case_typed : (t b : Tree) → type_of t ≡ Some ty → TypedUnder v [] (Two HCase t b) → TypedUnder v (ty ∷ []) (Two HCase (Bound 0 ty) b)
    case_typed t b q x = (((refl, x.0.0.1), x.0.1), subst (λ (o : Option Tree). BranchesFit o (first_body b) b) q x.1, hole_typed [], typed_further v [] (ty ∷ []) b x.3)

    -- an argument of a symbol
    module _ (t rest : Tree) (q : type_of t ≡ Some ty) (s : sort_of t ≡ Term) where
      abbrev holed : List Tree → Tree
      holed before = listed before (Two HCell (Bound 0 ty) rest)

      abbrev filled : List Tree → Tree
      filled before = listed before (Two HCell t rest)

      listed_like : (before : List Tree) → TypedUnder v [] (filled before)
          → TypedUnder v (ty ∷ []) (holed before) × (sort_of (holed before) ≡ sort_of (filled before)) × (first_sort (holed before) ≡ first_sort (filled before)) × (map type_of (members (holed before)) ≡ map type_of (members (filled before)))
      listed_like [] x = (
        ((((λ z. cc), subst (λ (k : Sort). IsListOf k (sort_of rest) (first_sort rest)) s x.0.0.1), tt), tt, hole_typed [], typed_further v [] (ty ∷ []) rest x.3),
        refl,
        ap Some (sym s),
        ap (λ (o : Option Tree). o ∷ map type_of (members rest)) (sym q),
      )
      listed_like (a ∷ before) x =
          let m = listed_like before x.3 in (
            (((x.0.0.0, (m.1 ∙ x.0.0.1.0, kept_first (sort_of a) (first_sort (filled before)) (first_sort (holed before)) m.2 x.0.0.1.1)), tt), tt, typed_further v [] (ty ∷ []) a x.2, m.0),
            refl,
            refl,
            ap (λ (os : List (Option Tree)). type_of a ∷ os) m.3,
          )

      pub function_typed : (f : ℕ) (types c : Tree) (before : List Tree) → TypedUnder v [] (Three (HFun f) types (filled before) c) → TypedUnder v (ty ∷ []) (Three (HFun f) types (holed before) c)
      function_typed f types c before x =
          let m = listed_like before x.3 in (
            (x.0.0, (m.1 ∙ x.0.1.0, kept_first Term (first_sort (filled before)) (first_sort (holed before)) m.2 x.0.1.1), x.0.2),
            (x.1.0, some_kept (entry v f) _ _ (λ e q u. (u.0, record { as_many = u.1.as_many; fit = m.3 ∙ u.1.fit }, u.2)) x.1.1),
            typed_further v [] (ty ∷ []) types x.2,
            m.0,
            typed_further v [] (ty ∷ []) c x.4,
          )

      pub predicate_typed : (p : ℕ) (types : Tree) (before : List Tree) → TypedUnder v [] (Two (HPred p) types (filled before)) → TypedUnder v (ty ∷ []) (Two (HPred p) types (holed before))
      predicate_typed p types before x =
          let m = listed_like before x.3 in (
            ((x.0.0.0, (m.1 ∙ x.0.0.1.0, kept_first Term (first_sort (filled before)) (first_sort (holed before)) m.2 x.0.0.1.1)), tt),
            (x.1.0, some_kept (entry v p) _ _ (λ e q u. (u.0, record { as_many = u.1.as_many; fit = m.3 ∙ u.1.fit })) x.1.1),
            typed_further v [] (ty ∷ []) types x.2,
            m.0,
          )
