-- A `match` by its arms; trees at assigned unknowns with their variables in another order.
use Rattle.std.proofs.Common.{◌≡◌, ℕ, ◌+◌, Bool, true, false, cond, nat_lt, List, [], ◌∷◌, ◌++◌, Option, Some, inl, inr, refl, sym, ap, ◌∙◌}
use Rattle.std.specs.List.{AllByRecursion}
use Rattle.elab_groups.specs.trees.declared.Sort.TheVariants.{Branch}
use Rattle.elab_groups.specs.trees.Tree.{Tree, Leaf, One, Two, Three, Head, HTyVar, HBound, HParam, HCell, HCase, HArm, binders, binders_over, pat_vars, one_vars, three_vars}
use Rattle.elab_groups.specs.trees.Sorts.{sort_of, type_of, IsList}
use Rattle.elab_groups.specs.trees.Binding.{one_by}
use Rattle.elab_groups.specs.trees.laws.Sorts.{kind_no_vars}
use Rattle.elab_groups.specs.tasks.Equations.{cells}
use Rattle.elab_groups.specs.tasks.Vocabulary.{Vocabulary}
use Rattle.elab_groups.specs.tasks.Typing.{pattern_types, BranchesFit}
use Rattle.elab_groups.proofs.tasks.Closing.{typed_sorted}
use Rattle.elab_groups.specs.open_types.unify_types.Assigned.{Variable, assign, leaf_assigned}
use Rattle.elab_groups.specs.open_types.Patterns.{reordering}
use Rattle.elaboration_laws.proofs.Over.{IsOver, IsGood, over_good}
use Rattle.elaboration_laws.proofs.Forms.{IsWanted, due_expression, yields, TypedAs, PatternTyped, good_two}
use Rattle.elaboration_laws.proofs.Reordering.{kind_stays}
use Rattle.elaboration_laws.proofs.Reordering as order

module _ (v : Vocabulary) (types : List Tree) where
  -- a branch that takes a type, whose body is as wanted
  abbrev pub IsArm : Tree → Option Tree → Tree → Type 0
  IsArm s t (Two HArm p b) = IsGood v types (Two HArm p b) × (type_of p ≡ Some s) × IsWanted t b
  IsArm s t _ = ⊥

  abbrev pub AreArms : Tree → Option Tree → List Tree → Type 0
  AreArms s t as' = AllByRecursion (IsArm s t) as'

  pub arm_typed : (s : Tree) (t : Option Tree) (vars : List Tree) (p b : Tree) → PatternTyped v types s vars p → TypedAs v (vars ++ types) t b → IsArm s t (Two HArm p b)
  arm_typed s t vars p b x y =
      let under : IsGood v (pattern_types p ++ types) b = rw x.3 y.0 in
      (good_two v types HArm p b ((x.1, due_expression t (sort_of b) y.1.0), tt) tt x.0 under, x.2, y.1)

  fit : (type : Option Tree) (s : Tree) (t : Option Tree) (first : Tree) (as' : List Tree) → type ≡ Some s → IsWanted t first → AreArms s t as' → BranchesFit type first (cells as')
  fit type s t first [] q k h = tt
  fit type s t first ((Two HArm p b) ∷ as') q k h = ((h.0.1 ∙ sym q, h.0.2.0 ∙ sym k.0, h.0.2.1 ∙ sym k.1), fit type s t first as' q k h.1)
  fit type s t first (_ ∷ as') q k h = absurd h.0

  arms_good : (s : Tree) (t : Option Tree) (as' : List Tree) → AreArms s t as' → IsGood v types (cells as') × IsList Branch (cells as')
  arms_good s t [] h = (((tt, tt), tt), (refl, inl refl))
  arms_good s t ((Two HArm p b) ∷ as') h =
      let rest = arms_good s t as' h.1 in
      (good_two v types HCell (Two HArm p b) (cells as') (((λ e. cc), rest.1), tt) tt h.0.0 rest.0, (refl, inr refl))
  arms_good s t (_ ∷ as') h = absurd h.0

  pub match_typed : (s : Tree) (t : Option Tree) (a : Tree) (as' : List Tree) → TypedAs v types (Some s) a → (as' ≡ [] → ⊥) → AreArms s t as' → TypedAs v types t (Two HCase a (cells as'))
  match_typed s t a [] x n h = absurd (n refl)
  match_typed s t a ((Two HArm p b) ∷ as') x n h =
      let g = arms_good s t (Two HArm p b ∷ as') h in
      let y = yields t b h.0.2 in
      (good_two v types HCase a (cells (Two HArm p b ∷ as')) ((x.1.0, g.1), refl) (fit (type_of a) s t b (Two HArm p b ∷ as') x.1.1 h.0.2 h) x.0 g.0, (y.0, y.1))
  match_typed s t a (_ ∷ as') x n h = absurd h.0

-- ---- another order at assigned unknowns
module _ (v : Vocabulary) (r : ℕ) (f : ℕ → Tree) (types : (j : ℕ) → IsOver v true (f j)) where
  leaf_vars : (h : Head) → pat_vars (leaf_assigned r f h) ≡ 0
  leaf_vars (HTyVar j) = of (nat_lt j r)
    where
      of : (b : Bool) → pat_vars (cond b (Variable j) (f j)) ≡ 0
      of true = refl
      of false = kind_no_vars (f j) (over_good v true [] (f j) (types j)).1
  leaf_vars _ = refl

  vars_assigned : (e : Tree) → pat_vars (assign r f e) ≡ pat_vars e
  vars_assigned (Leaf h) = leaf_vars h
  vars_assigned (One h a) = ap (one_vars h) (vars_assigned a)
  vars_assigned (Two h a b) = cc (vars_assigned a, vars_assigned b)
  vars_assigned (Three h a b c) = ap (three_vars h) (vars_assigned b)

  module _ (places : List ℕ) where
    leaf_order : (d : ℕ) (h : Head) → leaf_assigned r f h ≡ order.at places d (leaf_assigned r f h)
    leaf_order d (HTyVar j) = of (nat_lt j r)
      where
        of : (b : Bool) → cond b (Variable j) (f j) ≡ order.at places d (cond b (Variable j) (f j))
        of true = refl
        of false = let x = over_good v true [] (f j) (types j) in sym (kind_stays places d (f j) (typed_sorted v [] (f j) x.0.0) x.1)
    leaf_order d h = sym (order.leaf_at places d h)

    one_order : (d : ℕ) (h : Head) (a b : Tree) → assign r f a ≡ b → assign r f (one_by (reordering places) d h a) ≡ one_by (reordering places) d h b
    one_order d (HBound i) a b q = ap (λ (x : Tree). one_by (reordering places) d (HBound i) x) q
    one_order d (HParam n) a b q = ap (One (HParam n)) q
    one_order d h a b q = ap (One h) q

    pub order_assigned : (d : ℕ) (e : Tree) → assign r f (order.at places d e) ≡ order.at places d (assign r f e)
    order_assigned d (Leaf h) = ap (assign r f) (order.leaf_at places d h) ∙ leaf_order d h
    order_assigned d (One h a) = one_order d h (order.at places d a) (order.at places d (assign r f a)) (order_assigned d a)
    order_assigned d (Two h a b) =
        let q : d + binders_over h a ≡ d + binders_over h (assign r f a) = ap (λ (n : ℕ). d + binders h n) (sym (vars_assigned a)) in
        cc (order_assigned d a, order_assigned (d + binders_over h a) b, q)
    order_assigned d (Three h a b c) = cc (order_assigned d a, order_assigned d b, order_assigned d c)
