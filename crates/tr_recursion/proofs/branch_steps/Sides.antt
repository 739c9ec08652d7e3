-- The sides of an equation or equivalence, and evidence that they are alike by a `match`.
use Rattle.std.proofs.Common.{◌≡◌, ◌⊎◌, inl, inr, ℕ, [], ◌∷◌, sym, ap, subst, ◌∙◌}
use Rattle.trees.specs.declared.Op.TheVariants.{Iff}
use Rattle.trees.specs.declared.Sort.{Sort}
use Rattle.trees.specs.declared.TermId.{TermId}
use Rattle.trees.specs.Tree.{Tree, Two, Head, HEq, HJoin}
use Rattle.trees.specs.Node.{tree_at, Holds}
use Rattle.trees.specs.Sorts.{sort_of, type_of}
use Rattle.tasks.specs.Task.{TaskTree, neg}
use Rattle.tasks.specs.Valid.{IsGroundFormula}
use Rattle.evidence.specs.Drafts.{DraftTree, Extends, Refutes, IsFormulaAt}
use Rattle.evidence.specs.Laws.{Extends_trans}
use Rattle.congruence.specs.declared.alike.AlikeBy.{AlikeBy}
use Rattle.congruence.specs.kernel.Right.{IsGroundExpression}
use Rattle.congruence.specs.kernel.rules.Forms.{alike, alike_by}
use Rattle.congruence.specs.Alike.{ArePair, Shows}
use Rattle.congruence.proofs.Later.{tree_later, pair_later, shows_at}
use Rattle.tr_recursion.specs.branch_instances.Chosen.{IsChosenOf}
use Rattle.tr_inline.specs.Definitions.{unfolding_rule}
use Rattle.tr_inline.specs.Uses.{IsUseOf}
use Rattle.tr_inline.proofs.inlining.images.typing_laws.Sorted.{formula_no_type}
use Rattle.tr_recursion.specs.declared.branch_steps.equation_instances.TwoSides.{TwoSides}
use Rattle.tr_recursion.specs.branch_steps.Instances.{HasTwoSides, AreSidesOf, IsBranchInstance}

-- the sides of a formula are closed, of one sort and type, and it claims that they are alike
record AreClosedSides (t : TaskTree) (e l r : Tree) : Type 0 where
  left : IsGroundExpression t l
  right : IsGroundExpression t r
  sort : sort_of r ≡ sort_of l
  type : type_of r ≡ type_of l
  is : alike l r ≡ e

closed_sides : (t : TaskTree) (e : Tree) → IsGroundFormula t e → (s : HasTwoSides e) → AreClosedSides t e s.left s.right
closed_sides t e g s = by s.kind
  where
    by : (s.head ≡ HEq) ⊎ (s.head ≡ HJoin Iff) → AreClosedSides t e s.left s.right
    by (inl k) =
        let q : e ≡ Two HEq s.left s.right = s.is ∙ ap (λ (h : Head). Two h s.left s.right) k in
        let x : IsGroundFormula t (Two HEq s.left s.right) = subst (IsGroundFormula t) q g in
        let f = x.typed.0.0 in
        record {
          left = record { sort = inl f.0; typed = x.typed.2; ground = x.ground.0 };
          right = record { sort = inl f.1; typed = x.typed.3; ground = x.ground.1 };
          sort = f.1 ∙ sym f.0;
          type = sym x.typed.1;
          is = ap (λ (z : Sort). alike_by z s.left s.right) f.0 ∙ sym q;
        }
    by (inr k) =
        let q : e ≡ Two (HJoin Iff) s.left s.right = s.is ∙ ap (λ (h : Head). Two h s.left s.right) k in
        let x : IsGroundFormula t (Two (HJoin Iff) s.left s.right) = subst (IsGroundFormula t) q g in
        let f = x.typed.0.0 in
        record {
          left = record { sort = inr f.0; typed = x.typed.2; ground = x.ground.0 };
          right = record { sort = inr f.1; typed = x.typed.3; ground = x.ground.1 };
          sort = f.1 ∙ sym f.0;
          type = formula_no_type s.right f.1 ∙ sym (formula_no_type s.left f.0);
          is = ap (λ (z : Sort). alike_by z s.left s.right) f.0 ∙ sym q;
        }

module _ (d : DraftTree) (formula : TermId) (f : IsFormulaAt d formula) (k : ℕ) (i : IsBranchInstance d.task k (tree_at d.trees formula)) (x : TwoSides) (a : AreSidesOf d.trees formula x) where
  abbrev e : Tree
  e = tree_at d.trees formula

  found : AreClosedSides d.task e i.sides.left i.sides.right
  found = closed_sides d.task e f.ground i.sides

  abbrev l : Tree
  l = tree_at d.trees x.left

  abbrev r : Tree
  r = tree_at d.trees x.right

  left_is : l ≡ i.sides.left
  left_is = (a.are i.sides.head i.sides.left i.sides.right i.sides.is).0

  right_is : r ≡ i.sides.right
  right_is = (a.are i.sides.head i.sides.left i.sides.right i.sides.is).1

  here : AreClosedSides d.task e l r
  here = subst (λ (z : Tree). AreClosedSides d.task e z r) (sym left_is) (subst (λ (z : Tree). AreClosedSides d.task e i.sides.left z) (sym right_is) found)

  pub sides_pair : ArePair d x.left x.right
  sides_pair = record { left = record { held = a.left_held; ground = here.left }; right = record { held = a.right_held; ground = here.right }; sort = here.sort; type = here.type }

  pub left_used : (zs : Tree) × ((ts : Tree) × IsUseOf k l zs ts)
  left_used = (i.types, (i.args, subst (λ (z : Tree). IsUseOf k z i.types i.args) (sym left_is) i.used))

  pub right_chosen : IsChosenOf (unfolding_rule d.task k l) r
  right_chosen = subst (λ (z : Tree). IsChosenOf (unfolding_rule d.task k z) r) (sym left_is) (subst (λ (z : Tree). IsChosenOf (unfolding_rule d.task k i.sides.left) z) (sym right_is) i.chosen)

  -- a step for the claim is one for the formula
  pub formula_refuted : (d1 d2 : DraftTree) (n : ℕ) → Extends d d1 → Refutes d2 n (neg (alike (tree_at d1.trees x.left) (tree_at d1.trees x.right)) ∷ []) → Refutes d2 n (neg e ∷ [])
  formula_refuted d1 d2 n y s =
      let ql : tree_at d1.trees x.left ≡ l = tree_later d d1 y x.left a.left_held in
      let qr : tree_at d1.trees x.right ≡ r = tree_later d d1 y x.right a.right_held in
      subst (λ (z : Tree). Refutes d2 n (neg z ∷ [])) (ap (λ (z : Tree). alike z (tree_at d1.trees x.right)) ql ∙ ap (alike l) qr ∙ here.is) s

-- ---- a use, what it is unfolded to, and what that gives
module _ (d d1 : DraftTree) (x : Extends d d1) (left right whole : TermId) (p : ArePair d left right) (q : ArePair d1 left whole) where
  pub whole_pair : ArePair d1 whole right
  whole_pair = let w = pair_later d d1 x left right p in record { left = q.right; right = w.right; sort = w.sort ∙ sym q.sort; type = w.type ∙ sym q.type }

  pub whole_chosen : (k : ℕ) → tree_at d1.trees whole ≡ unfolding_rule d.task k (tree_at d.trees left) → IsChosenOf (unfolding_rule d.task k (tree_at d.trees left)) (tree_at d.trees right) → IsChosenOf (tree_at d1.trees whole) (tree_at d1.trees right)
  whole_chosen k e c =
      subst (λ (z : Tree). IsChosenOf z (tree_at d1.trees right)) (sym e) (subst (λ (z : Tree). IsChosenOf (unfolding_rule d.task k (tree_at d.trees left)) z) (sym (tree_later d d1 x right p.right.held)) c)

  -- the first link, after the second was made
  pub first_shown : (d2 : DraftTree) → Extends d1 d2 → (w : AlikeBy) → Shows d1 w (tree_at d.trees left) (tree_at d1.trees whole) → Shows d2 w (tree_at d2.trees left) (tree_at d2.trees whole)
  first_shown d2 y w s =
      shows_at d1 d2 y w left whole q.left.held q.right.held (subst (λ (z : Tree). Shows d1 w z (tree_at d1.trees whole)) (sym (tree_later d d1 x left p.left.held)) s)

  pub second_shown : (d2 : DraftTree) → Extends d1 d2 → (w : AlikeBy) → Shows d2 w (tree_at d1.trees whole) (tree_at d1.trees right) → Shows d2 w (tree_at d2.trees whole) (tree_at d2.trees right)
  second_shown d2 y w s =
      subst (λ (z : Tree). Shows d2 w z (tree_at d2.trees right)) (sym (tree_later d1 d2 y whole q.right.held))
      (subst (λ (z : Tree). Shows d2 w (tree_at d1.trees whole) z) (sym (tree_later d1 d2 y right whole_pair.right.held)) s)

  pub both_shown : (d2 d3 : DraftTree) → Extends d1 d2 → (w : AlikeBy) → Shows d3 w (tree_at d2.trees left) (tree_at d2.trees right) → Shows d3 w (tree_at d.trees left) (tree_at d.trees right)
  both_shown d2 d3 y w s =
      let z = Extends_trans d d1 d2 x y in
      subst (λ (e : Tree). Shows d3 w e (tree_at d.trees right)) (tree_later d d2 z left p.left.held) (subst (λ (e : Tree). Shows d3 w (tree_at d2.trees left) e) (tree_later d d2 z right p.right.held) s)

-- evidence at the trees of the later draft
pub shows_now : (d d1 : DraftTree) → Extends d d1 → (w : AlikeBy) (l r : TermId) → Holds d.trees l → Holds d.trees r → Shows d1 w (tree_at d.trees l) (tree_at d.trees r) → Shows d1 w (tree_at d1.trees l) (tree_at d1.trees r)
shows_now d d1 x w l r hl hr s = subst (λ (z : Tree). Shows d1 w z (tree_at d1.trees r)) (sym (tree_later d d1 x l hl)) (subst (λ (z : Tree). Shows d1 w (tree_at d.trees l) z) (sym (tree_later d d1 x r hr)) s)
