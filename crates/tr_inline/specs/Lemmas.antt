-- Lemmas of a draft: formulas whose negations steps refute; and universal formulas that can be
-- taken at terms.
use Rattle.std.specs.Prelude.{◌≡◌, [], ◌∷◌, Some}
use Rattle.trees.specs.Tree.{Tree, Two, HCell, HForall}
use Rattle.trees.specs.Binding.{inst}
use Rattle.trees.specs.Node.{tree_at}
use Rattle.trees.specs.declared.TermId.{TermId}
use Rattle.trees.specs.declared.Sort.TheVariants.{Term}
use Rattle.trees.specs.Sorts.{sort_of, type_of}
use Rattle.tasks.specs.Task.{TaskTree, neg}
use Rattle.congruence.specs.kernel.Right.{IsGroundExpression}
use Rattle.evidence.specs.Drafts.{DraftTree, Refutes, IsFormulaAt}
use Rattle.tr_inline.specs.declared.lemmas.Lemma.{Lemma}

-- a formula, and a step that refutes its negation
pub record IsLemma (d : DraftTree) (m : Lemma) : Type 0 where
  pub formula : IsFormulaAt d m.formula
  pub refutes : Refutes d m.step (neg (tree_at d.trees m.formula) ∷ [])

-- a universal formula, and a closed term of its type
pub record TakesTerm (t : TaskTree) (f a : Tree) : Type 0 where
  pub ty : Tree
  pub body : Tree
  pub is : f ≡ Two HForall ty body
  pub type : type_of a ≡ Some ty
  pub term : sort_of a ≡ Term
  pub ground : IsGroundExpression t a

-- the same for each term of a list, one after another
abbrev pub TakesTerms : TaskTree → Tree → Tree → Type 0
TakesTerms t f (Two HCell a b) = (w : TakesTerm t f a) × TakesTerms t (inst w.body a) b
TakesTerms t f _ = Unit {0}
