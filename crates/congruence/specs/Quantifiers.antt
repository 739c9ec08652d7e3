-- The two quantifiers, by one truth value, and formulas of them.
use Rattle.std.specs.Prelude.{◌≡◌, ◌≤◌, Bool, true, false}
use Rattle.trees.specs.Tree.{Head, Two, HForall, HExists, above_params}
use Rattle.trees.specs.Node.{tree_at, Holds}
use Rattle.trees.specs.Binding.{inst, Param}
use Rattle.evidence.specs.Drafts.{DraftTree, IsFormulaAt}
use Rattle.congruence.specs.declared.quantified.Quantifier.{Quantifier}
use Rattle.congruence.specs.declared.quantified.Quantified.{Quantified}
use Rattle.congruence.specs.Alike.{IsClosedAt}

-- `forall` where it is true
abbrev pub quantifier_head : Bool → Head
quantifier_head true = HForall
quantifier_head false = HExists

-- the numbers are of a type, and of a closed term that is a parameter of it
pub record IsQuantifierHeld (d : DraftTree) (q : Quantifier) : Type 0 where
  pub ty : Holds d.trees q.ty
  pub term : IsClosedAt d q.term
  pub term_is : tree_at d.trees q.term ≡ Param q.number (tree_at d.trees q.ty)

-- the numbers of a formula of this quantifier, to which the parameter is new, of its body, and of
-- the body at the parameter
pub record IsQuantifiedAt (d : DraftTree) (q : Quantifier) (f : Quantified) : Type 0 where
  pub whole : IsFormulaAt d f.whole
  pub body : Holds d.trees f.body
  pub at_parameter : IsFormulaAt d f.at_parameter
  pub whole_is : tree_at d.trees f.whole
      ≡ Two (quantifier_head q.universal) (tree_at d.trees q.ty) (tree_at d.trees f.body)
  pub at_parameter_is : tree_at d.trees f.at_parameter
      ≡ inst (tree_at d.trees f.body) (Param q.number (tree_at d.trees q.ty))
  pub new : above_params (tree_at d.trees f.whole) ≤ q.number
