-- What is said of a draft stays as it grows.
use Rattle.std.proofs.Common.{◌≡◌, sym, ap, subst, ◌∙◌, arith}
use Rattle.trees.specs.declared.TermId.{TermId}
use Rattle.trees.specs.Node.{tree_at, Holds}
use Rattle.trees.specs.Sorts.{sort_of, type_of}
use Rattle.tasks.specs.Task.{TaskTree}
use Rattle.kernel.specs.Right.{IsGroundExpression}
use Rattle.evidence.specs.Drafts.{DraftTree, Extends, AddsTrees, IsFormulaAt}
use Rattle.evidence.specs.Laws.{AddsTrees_extends}
use Rattle.evidence.proofs.Formulas.{formula_later}
use Rattle.evidence.specs.proof_scripts.Added.{IsExpressionAt, AreComparable}

module _ (d d1 : DraftTree) (x : Extends d d1) where
  pub expression_later : (id : TermId) → IsExpressionAt d id → IsExpressionAt d1 id
  expression_later id c = record {
    held = omega (arith, c.held, x.trees.longer);
    ground = subst (λ (t : TaskTree). IsGroundExpression t (tree_at d1.trees id)) (sym x.task) (subst (IsGroundExpression d.task) (sym (x.trees.same id.0 c.held)) c.ground);
  }

  pub comparable_later : (a b : TermId) → AreComparable d a b → AreComparable d1 a b
  comparable_later a b p = record {
    left = expression_later a p.left;
    right = expression_later b p.right;
    sort = ap sort_of (x.trees.same b.0 p.right.held) ∙ p.sort ∙ ap sort_of (sym (x.trees.same a.0 p.left.held));
    type = ap type_of (x.trees.same b.0 p.right.held) ∙ p.type ∙ ap type_of (sym (x.trees.same a.0 p.left.held));
  }

module _ (d d1 : DraftTree) (x : AddsTrees d d1) where
  pub held_added : (id : TermId) → Holds d.trees id → Holds d1.trees id
  held_added id h = omega (arith, h, x.trees.longer)

  pub tree_added : (id : TermId) → Holds d.trees id → tree_at d1.trees id ≡ tree_at d.trees id
  tree_added id h = x.trees.same id.0 h

  pub formula_added : (id : TermId) → IsFormulaAt d id → IsFormulaAt d1 id
  formula_added id f = formula_later d d1 (AddsTrees_extends d d1 x) id f

  pub expression_added : (id : TermId) → IsExpressionAt d id → IsExpressionAt d1 id
  expression_added id c = expression_later d d1 (AddsTrees_extends d d1 x) id c

  pub alike_added : (a b : TermId) → AreComparable d a b → AreComparable d1 a b
  alike_added a b p = comparable_later d d1 (AddsTrees_extends d d1 x) a b p
