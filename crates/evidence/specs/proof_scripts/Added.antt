-- What a line makes for the premise of its rule.
use Rattle.std.specs.Prelude.{◌≡◌, ℕ, List, [], ◌∷◌, Option, Some, None, IsSomeAnd}
use Rattle.trees.specs.declared.TermId.{TermId}
use Rattle.trees.specs.Tree.{Tree, Two, HForall, HExists}
use Rattle.trees.specs.Node.{tree_at, Holds}
use Rattle.trees.specs.Binding.{inst, Param}
use Rattle.trees.specs.Sorts.{sort_of, type_of}
use Rattle.tasks.specs.Task.{neg}
use Rattle.tasks.specs.Vocabulary.{of_task}
use Rattle.tasks.specs.Valid.{VariablesBelow}
use Rattle.rules.specs.Forms.{negated, equation_sides, let_of, if_of, alike, by_cases}
use Rattle.rules.specs.Rows.{IsTemplate}
use Rattle.kernel.specs.Right.{IsGroundExpression}
use Rattle.tasks.specs.typed_trees.instances.Instances.{IsTermOf, IsClosedTerm}
use Rattle.evidence.specs.Drafts.{DraftTree, IsFormulaAt}

-- the number of the formula that the only premise adds
pub record IsAdded (d : DraftTree) (id : TermId) (added : List (List Tree)) : Type 0 where
  pub formula : IsFormulaAt d id
  pub is : added ≡ (tree_at d.trees id ∷ []) ∷ []

-- the type and the body of a quantifier of either kind
abbrev pub quantifier_parts : Tree → Option (Tree × Tree)
quantifier_parts (Two HForall ty b) = Some (ty, b)
quantifier_parts (Two HExists ty b) = Some (ty, b)
quantifier_parts _ = None

-- the number of a closed term of the draft's task, of this type
pub record IsClosedTermAt (d : DraftTree) (ty : Tree) (id : TermId) : Type 0 where
  pub held : Holds d.trees id
  pub closed : IsClosedTerm (tree_at d.trees id)
  pub term : IsTermOf (of_task d.task) ty (tree_at d.trees id)
  pub variables : VariablesBelow 0 (tree_at d.trees id)

-- the term is one of the type of a quantifier
abbrev pub IsTermFor : DraftTree → Tree → TermId → Type 0
IsTermFor d q id = IsSomeAnd (quantifier_parts q) (λ p. IsClosedTermAt d p.0 id)

-- a quantifier's body at a term
abbrev pub IsBodyAt : Tree → Tree → Tree → Type 0
IsBodyAt q t e = IsSomeAnd (quantifier_parts q) (λ p. e ≡ inst p.1 t)

-- the same at a parameter of the quantifier's type
abbrev pub IsBodyAtNew : Tree → ℕ → Tree → Type 0
IsBodyAtNew q n e = IsSomeAnd (quantifier_parts q) (λ p. e ≡ inst p.1 (Param n p.0))

abbrev pub IsNegated : Tree → Type 0
IsNegated e = IsSomeAnd (negated (Some e)) (λ a. Unit {0})

abbrev pub IsQuantified : Tree → Type 0
IsQuantified e = IsSomeAnd (quantifier_parts e) (λ p. Unit {0})

-- the number of a closed term or formula of the draft's task
pub record IsExpressionAt (d : DraftTree) (id : TermId) : Type 0 where
  pub held : Holds d.trees id
  pub ground : IsGroundExpression d.task (tree_at d.trees id)

-- two closed expressions of one sort and type
pub record AreComparable (d : DraftTree) (a b : TermId) : Type 0 where
  pub left : IsExpressionAt d a
  pub right : IsExpressionAt d b
  pub sort : sort_of (tree_at d.trees b) ≡ sort_of (tree_at d.trees a)
  pub type : type_of (tree_at d.trees b) ≡ type_of (tree_at d.trees a)

-- a formula with its variable 0 open, at the type of the sides of an equation
abbrev pub IsTemplateFor : DraftTree → Tree → Tree → Type 0
IsTemplateFor d q e = IsSomeAnd (equation_sides (Some q))
    (λ p. IsSomeAnd (type_of p.0) (λ ty. IsTemplate d.task ty e))

-- the equation's right side in a template
abbrev pub IsReplaced : Tree → Tree → Tree → Type 0
IsReplaced q t e = IsSomeAnd (equation_sides (Some q)) (λ p. e ≡ inst t p.1)

-- negations of bodies
abbrev pub IsNegatedBodyAt : Tree → Tree → Tree → Type 0
IsNegatedBodyAt q t e = IsSomeAnd (quantifier_parts q) (λ p. e ≡ neg (inst p.1 t))

abbrev pub IsNegatedBodyAtNew : Tree → ℕ → Tree → Type 0
IsNegatedBodyAtNew q n e = IsSomeAnd (quantifier_parts q) (λ p. e ≡ neg (inst p.1 (Param n p.0)))

-- the parameter of this number, of a quantifier's type
abbrev pub IsParameterFor : Tree → ℕ → Tree → Type 0
IsParameterFor q n e = IsSomeAnd (quantifier_parts q) (λ p. e ≡ Param n p.0)

-- a `let` and an `if`, and what they are alike
abbrev pub IsLet : Tree → Type 0
IsLet e = IsSomeAnd (let_of e) (λ p. Unit {0})

abbrev pub IsLetEquation : Tree → Tree → Type 0
IsLetEquation w e = IsSomeAnd (let_of w) (λ p. e ≡ alike w (inst p.1 p.0))

abbrev pub IsIf : Tree → Type 0
IsIf e = IsSomeAnd (if_of e) (λ p. Unit {0})

abbrev pub IsIfEquation : Tree → Tree → Type 0
IsIfEquation w e = IsSomeAnd (if_of w) (λ p. e ≡ by_cases p.0 w p.1 p.2)
