-- The sides of an equation that is a formula of a draft's task, in a later draft.
use Rattle.std.proofs.Common.{◌≡◌, inl, sym, ap, subst, ◌∙◌, arith}
use Rattle.tasks.specs.trees.declared.TermId.{TermId}
use Rattle.tasks.specs.trees.declared.Sort.{Sort}
use Rattle.tasks.specs.trees.declared.Sort.TheVariants.{Term}
use Rattle.tasks.specs.trees.Tree.{Tree, Two, HEq}
use Rattle.tasks.specs.trees.Node.{tree_at, Holds}
use Rattle.tasks.specs.trees.Sorts.{sort_of, type_of}
use Rattle.tasks.specs.Task.{TaskTree}
use Rattle.tasks.specs.Valid.{IsGroundFormula}
use Rattle.kernel.specs.rules.Forms.{alike, alike_by, equal}
use Rattle.kernel.specs.Right.{IsGroundExpression}
use Rattle.evidence.specs.Drafts.{DraftTree, Extends, IsFormulaAt}
use Rattle.evidence.specs.proof_scripts.Added.{AreComparable}

module _ (d d1 : DraftTree) (x : Extends d d1) (formula left right : TermId) (f : IsFormulaAt d formula) (is : tree_at d.trees formula ≡ Two HEq (tree_at d.trees left) (tree_at d.trees right)) (hl : Holds d.trees left) (hr : Holds d.trees right) where
  whole : IsGroundFormula d.task (Two HEq (tree_at d.trees left) (tree_at d.trees right))
  whole = subst (IsGroundFormula d.task) is f.ground

  left_same : tree_at d1.trees left ≡ tree_at d.trees left
  left_same = x.trees.same left.0 hl

  right_same : tree_at d1.trees right ≡ tree_at d.trees right
  right_same = x.trees.same right.0 hr

  in_later : (id : TermId) → tree_at d1.trees id ≡ tree_at d.trees id → IsGroundExpression d.task (tree_at d.trees id) → IsGroundExpression d1.task (tree_at d1.trees id)
  in_later id q g = subst (λ (t : TaskTree). IsGroundExpression t (tree_at d1.trees id)) (sym x.task) (subst (IsGroundExpression d.task) (sym q) g)

  pub left_ground : IsGroundExpression d1.task (tree_at d1.trees left)
  left_ground = in_later left left_same (record { sort = inl whole.typed.0.0.0; typed = whole.typed.2; ground = whole.ground.0 })

  right_ground : IsGroundExpression d1.task (tree_at d1.trees right)
  right_ground = in_later right right_same (record { sort = inl whole.typed.0.0.1; typed = whole.typed.3; ground = whole.ground.1 })

  left_sort : sort_of (tree_at d1.trees left) ≡ Term
  left_sort = ap sort_of left_same ∙ whole.typed.0.0.0

  right_sort : sort_of (tree_at d1.trees right) ≡ Term
  right_sort = ap sort_of right_same ∙ whole.typed.0.0.1

  pub comparable : AreComparable d1 left right
  comparable = record {
    left = record { held = omega (arith, hl, x.trees.longer); ground = left_ground };
    right = record { held = omega (arith, hr, x.trees.longer); ground = right_ground };
    sort = right_sort ∙ sym left_sort;
    type = ap type_of right_same ∙ sym whole.typed.1 ∙ ap type_of (sym left_same);
  }

  pub sides_are : tree_at d.trees formula ≡ equal (tree_at d1.trees left) (tree_at d1.trees right)
  sides_are = is ∙ ap (λ (z : Tree). Two HEq z (tree_at d.trees right)) (sym left_same) ∙ ap (Two HEq (tree_at d1.trees left)) (sym right_same)

  pub claim_at : alike (tree_at d1.trees left) (tree_at d1.trees right) ≡ tree_at d.trees formula
  claim_at = ap (λ (s : Sort). alike_by s (tree_at d1.trees left) (tree_at d1.trees right)) left_sort ∙ sym sides_are
