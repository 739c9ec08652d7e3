-- Trees at assigned types, with their variables in another order.
use Rattle.std.proofs.Common.{◌≡◌, ℕ, ◌+◌, Bool, true, false, cond, nat_lt, List, refl, sym, ap, ◌∙◌}
use Rattle.elab_groups.specs.trees.Tree.{Tree, Leaf, One, Two, Three, Head, HTyVar, HBound, HParam, binders, binders_over, pat_vars, one_vars, three_vars}
use Rattle.elab_groups.specs.trees.Binding.{one_by}
use Rattle.elab_groups.specs.trees.laws.Sorts.{kind_no_vars}
use Rattle.elab_groups.specs.open_types.unify_types.Assigned.{Variable, assign, leaf_assigned}
use Rattle.elab_groups.specs.open_types.unify_types.Pairs.{IsKind}
use Rattle.elab_groups.specs.open_types.Patterns.{reordering}
use Rattle.elaboration_laws.proofs.Reordering.{kind_stays}
use Rattle.elaboration_laws.proofs.Reordering as order

module _ (r : ℕ) (f : ℕ → Tree) (kinds : (j : ℕ) → IsKind (f j)) where
  leaf_vars : (h : Head) → pat_vars (leaf_assigned r f h) ≡ 0
  leaf_vars (HTyVar j) = of (nat_lt j r)
    where
      of : (b : Bool) → pat_vars (cond b (Variable j) (f j)) ≡ 0
      of true = refl
      of false = kind_no_vars (f j) (kinds j).1
  leaf_vars _ = refl

  vars_at : (e : Tree) → pat_vars (assign r f e) ≡ pat_vars e
  vars_at (Leaf h) = leaf_vars h
  vars_at (One h a) = ap (one_vars h) (vars_at a)
  vars_at (Two h a b) = cc (vars_at a, vars_at b)
  vars_at (Three h a b c) = ap (three_vars h) (vars_at b)

  module _ (places : List ℕ) where
    leaf_order : (d : ℕ) (h : Head) → leaf_assigned r f h ≡ order.at places d (leaf_assigned r f h)
    leaf_order d (HTyVar j) = of (nat_lt j r)
      where
        of : (b : Bool) → cond b (Variable j) (f j) ≡ order.at places d (cond b (Variable j) (f j))
        of true = refl
        of false = sym (kind_stays places d (f j) (kinds j).0 (kinds j).1)
    leaf_order d h = sym (order.leaf_at places d h)

    one_order : (d : ℕ) (h : Head) (a b : Tree) → assign r f a ≡ b → assign r f (one_by (reordering places) d h a) ≡ one_by (reordering places) d h b
    one_order d (HBound i) a b q = ap (λ (x : Tree). one_by (reordering places) d (HBound i) x) q
    one_order d (HParam n) a b q = ap (One (HParam n)) q
    one_order d h a b q = ap (One h) q

    -- the variables have the same places in the tree at assigned types
    pub order_at : (d : ℕ) (e : Tree) → assign r f (order.at places d e) ≡ order.at places d (assign r f e)
    order_at d (Leaf h) = ap (assign r f) (order.leaf_at places d h) ∙ leaf_order d h
    order_at d (One h a) = one_order d h (order.at places d a) (order.at places d (assign r f a)) (order_at d a)
    order_at d (Two h a b) =
        let q : d + binders_over h a ≡ d + binders_over h (assign r f a) = ap (λ (n : ℕ). d + binders h n) (sym (vars_at a)) in
        cc (order_at d a, order_at (d + binders_over h a) b, q)
    order_at d (Three h a b c) = cc (order_at d a, order_at d b, order_at d c)
