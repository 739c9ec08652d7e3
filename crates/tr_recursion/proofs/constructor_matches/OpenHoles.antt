-- An open tree at closed terms, with the variable 0 in the place of one of them, or another term of its type.
use Rattle.std.proofs.Common.{◌≡◌, ◌⊎◌, inl, inr, ℕ, zero, suc, ◌+◌, ◌<◌, List, [], ◌∷◌, ◌++◌, length, get_or, slice_get, All, Some, refl, sym, ap, subst, ◌∙◌, arith}
use Rattle.std.proofs.lemmas.List.{length-append}
use Rattle.trees.specs.declared.Sort.TheVariants.{Term}
use Rattle.trees.specs.Tree.{Tree, loose, pat_vars}
use Rattle.trees.specs.Binding.{Bound, inst, inst_many, AreClosed}
use Rattle.trees.specs.Sorts.{WellSorted, sort_of, type_of}
use Rattle.tasks.specs.Task.{TaskTree}
use Rattle.tasks.specs.Vocabulary.{Vocabulary, of_task}
use Rattle.tasks.specs.Typing.{TypedUnder}
use Rattle.tasks.specs.Valid.{IsGround, VariablesBelow}
use Rattle.tasks.proofs.Closing.{typed_closed}
use Rattle.tasks.proofs.TypeInstances.{typed_further}
use Rattle.congruence.specs.tasks.typed_trees.instances.Instances.{IsTermOf, AreFor}
use Rattle.tr_inline.specs.inlining.images.OpenTerms.{AreOpenFor}
use Rattle.tr_inline.specs.inlining.images.Templates.{IsClosedType}
use Rattle.tr_inline.proofs.inlining.images.Environments.{closed_for}
use Rattle.tr_inline.proofs.inlining.images.Holes.{template_filled}
use Rattle.tr_inline.proofs.inlining.images.Laws.{many}
use Rattle.tr_inline.proofs.inlining.images.Templates.{hole_typed}
use Rattle.tr_inline.proofs.inlining.images.typing_laws.Changes.{many_variables}
use Rattle.tr_recursion.proofs.branch_instances.Opened.{closed_right as closed_after}
use Rattle.tr_recursion.proofs.branch_instances.Opened.{closed_left as closed_before}

-- ---- a place of a list
here_or_not : (xs ys : List Tree) (b : Tree) (k : ℕ) (e : Tree) → ((k ≡ length xs) × (get_or (xs ++ b ∷ ys) k e ≡ b)) ⊎ ((a : Tree) → get_or (xs ++ b ∷ ys) k e ≡ get_or (xs ++ a ∷ ys) k e)
here_or_not [] ys b zero e = inl (refl, refl)
here_or_not [] ys b (suc k) e = inr (λ a. refl)
here_or_not (x ∷ xs) ys b zero e = inr (λ a. refl)
here_or_not (x ∷ xs) ys b (suc k) e = elim (here_or_not xs ys b k e) [ inl p ↦ inl (ap suc p.0, p.1) | inr f ↦ inr f ]

own_place : (xs ys : List Tree) (a : Tree) (e : Tree) → get_or (xs ++ a ∷ ys) (length xs) e ≡ a
own_place [] ys a e = refl
own_place (x ∷ xs) ys a e = own_place xs ys a e

same_length : (xs ys : List Tree) (a b : Tree) → length (xs ++ a ∷ ys) ≡ length (xs ++ b ∷ ys)
same_length xs ys a b = length-append xs (a ∷ ys) ∙ sym (length-append xs (b ∷ ys))

module _ (v : Vocabulary) (types before following : List Tree) (a ty : Tree) (o : AreFor v types (before ++ a ∷ following)) (q : type_of a ≡ Some ty) where
  own_type : (i k : ℕ) (u e : Tree) → slice_get types i ≡ Some u → i + k + 1 ≡ length (before ++ a ∷ following) → k ≡ length before → u ≡ ty
  own_type i k u e s n m =
      let w = o.each i k u e s n in
      let z : Some u ≡ Some ty = sym w.type ∙ ap type_of (ap (λ (j : ℕ). get_or (before ++ a ∷ following) j e) m ∙ own_place before following a e) ∙ q in
      cc

  -- another term there
  pub replaced_for : (b : Tree) → IsTermOf v ty b → AreFor v types (before ++ b ∷ following)
  replaced_for b h = record { as_many = same_length before following b a ∙ o.as_many; each = each_for }
    where
      each_for : (i k : ℕ) (u e : Tree) → slice_get types i ≡ Some u → i + k + 1 ≡ length (before ++ b ∷ following) → IsTermOf v u (get_or (before ++ b ∷ following) k e)
      each_for i k u e s n = elim (here_or_not before following b k e) [
        | inl p ↦ subst (λ (z : Tree). IsTermOf v z (get_or (before ++ b ∷ following) k e)) (sym (own_type i k u e s (n ∙ same_length before following b a) p.0)) (subst (IsTermOf v ty) (sym p.1) h)
        | inr f ↦ subst (IsTermOf v u) (sym (f a)) (o.each i k u e s (n ∙ same_length before following b a))
      ]

  -- the variable there
  open_for : IsClosedType v ty → AreOpenFor v (ty ∷ []) types (before ++ Bound 0 ty ∷ following)
  open_for k = record { as_many = same_length before following (Bound 0 ty) a ∙ o.as_many; each = each_for }
    where
      each_for : (i m : ℕ) (u e : Tree) → slice_get types i ≡ Some u → i + m + 1 ≡ length (before ++ Bound 0 ty ∷ following)
          → (sort_of (get_or (before ++ Bound 0 ty ∷ following) m e) ≡ Term) × ((type_of (get_or (before ++ Bound 0 ty ∷ following) m e) ≡ Some u) × TypedUnder v (ty ∷ []) (get_or (before ++ Bound 0 ty ∷ following) m e))
      each_for i m u e s n = elim (here_or_not before following (Bound 0 ty) m e) [
        | inl p ↦
            let w : u ≡ ty = own_type i m u e s (n ∙ same_length before following (Bound 0 ty) a) p.0 in
            (ap sort_of p.1, (ap type_of p.1 ∙ ap (λ (z : Tree). Some z) (sym w), subst (TypedUnder v (ty ∷ [])) (sym p.1) (hole_typed v ty k [])))
        | inr f ↦
            let w = o.each i m u e s (n ∙ same_length before following (Bound 0 ty) a) in
            (ap sort_of (f a) ∙ w.sort, (ap type_of (f a) ∙ w.type, subst (TypedUnder v (ty ∷ [])) (sym (f a)) (typed_further v [] (ty ∷ []) (get_or (before ++ a ∷ following) m e) w.typed)))
      ]

module _ (t : TaskTree) (types : List Tree) (E : Tree) (x : TypedUnder (of_task t) types E) (g : IsGround E) (before following : List Tree) (a ty : Tree) (o : AreFor (of_task t) types (before ++ a ∷ following)) (gs : All IsGround (before ++ a ∷ following)) (q : type_of a ≡ Some ty) (k : IsClosedType (of_task t) ty) (gt : IsGround ty) where
  abbrev hole : Tree
  hole = inst_many E (before ++ Bound 0 ty ∷ following)

  pub open_hole_typed : WellSorted hole → TypedUnder (of_task t) (ty ∷ []) hole
  open_hole_typed w = (many (of_task t) (ty ∷ []) types (before ++ Bound 0 ty ∷ following) (open_for (of_task t) types before following a ty o q k) E (typed_further (of_task t) types (ty ∷ []) E x)).typed w

  pub open_hole_sort : sort_of hole ≡ sort_of E
  open_hole_sort = (many (of_task t) (ty ∷ []) types (before ++ Bound 0 ty ∷ following) (open_for (of_task t) types before following a ty o q k) E (typed_further (of_task t) types (ty ∷ []) E x)).sort

  pub open_hole_ground : IsGround hole
  open_hole_ground = many_variables (before ++ Bound 0 ty ∷ following) 0 each_ground E g
    where
      each_ground : (m : ℕ) (e : Tree) → m < length (before ++ Bound 0 ty ∷ following) → VariablesBelow 0 (get_or (before ++ Bound 0 ty ∷ following) m e)
      each_ground m e l = elim (here_or_not before following (Bound 0 ty) m e) [
        | inl p ↦ subst (VariablesBelow 0) (sym p.1) gt
        | inr f ↦ subst (VariablesBelow 0) (sym (f a)) (gs m e (omega (arith, l, same_length before following (Bound 0 ty) a)))
      ]

  closed : AreClosed (before ++ a ∷ following)
  closed = closed_for (of_task t) types (before ++ a ∷ following) o

  pub open_hole_fills : (z : Tree) → loose z ≡ 0 → pat_vars z ≡ 0 → inst hole z ≡ inst_many E (before ++ z ∷ following)
  open_hole_fills z l n =
      template_filled z l n E ty before following (omega (arith, typed_closed (of_task t) types E x, o.as_many, length-append before (a ∷ following))) (closed_before before (a ∷ following) closed) (closed_after before (a ∷ following) closed).1
