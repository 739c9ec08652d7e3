-- Equations of branches, at types and at closed terms.
use Rattle.std.specs.Prelude.{◌≡◌, ◌⊎◌, ℕ, List, length, slice_get, All, Some}
use Rattle.trees.specs.declared.Op.TheVariants.{Iff}
use Rattle.trees.specs.declared.TermId.{TermId}
use Rattle.trees.specs.Tree.{Tree, Two, Head, HEq, HJoin}
use Rattle.trees.specs.Binding.{inst_types, AreClosed}
use Rattle.trees.specs.Node.{tree_at, Holds}
use Rattle.tasks.specs.Task.{TaskTree, DefinitionTree, symbol_or}
use Rattle.tasks.specs.Valid.{IsTypeOver}
use Rattle.tr_inline.specs.inlining.branch_equations.Branches.{ConstructorBranch, matched_parameter, quantifiers, branch_equation}
use Rattle.tr_recursion.specs.branch_instances.Chosen.{IsChosenOf}
use Rattle.tr_inline.specs.inlining.images.Instances.{for_all_at}
use Rattle.tr_inline.specs.checks.decl_checks.Structure.{defining_body}
use Rattle.tr_inline.specs.Definitions.{unfolding_rule}
use Rattle.tr_inline.specs.Uses.{IsUseOf}
use Rattle.tr_recursion.specs.declared.branch_steps.equation_instances.TwoSides.{TwoSides}

-- an equation or an equivalence
pub record HasTwoSides (e : Tree) : Type 0 where
  pub head : Head
  pub left : Tree
  pub right : Tree
  pub is : e ≡ Two head left right
  pub kind : (head ≡ HEq) ⊎ (head ≡ HJoin Iff)

-- the numbers of its sides
pub record AreSidesOf (s : List Tree) (e : TermId) (x : TwoSides) : Type 0 where
  pub left_held : Holds s x.left
  pub right_held : Holds s x.right
  pub are : (h : Head) (l r : Tree) → tree_at s e ≡ Two h l r
      → (tree_at s x.left ≡ l) × (tree_at s x.right ≡ r)

-- it says of a use of a symbol what the constructor's branch of the body there gives
pub record IsBranchInstance (t : TaskTree) (k : ℕ) (e : Tree) : Type 0 where
  pub sides : HasTwoSides e
  pub types : Tree
  pub args : Tree
  pub used : IsUseOf k sides.left types args
  pub chosen : IsChosenOf (unfolding_rule t k sides.left) sides.right

-- so at closed terms for the variables that its quantifiers bind
abbrev pub OpensToBranch : TaskTree → ℕ → Tree → Type 0
OpensToBranch t k e = (ws : List Tree) → AreClosed ws → length ws ≡ quantifiers e
    → IsBranchInstance t k (for_all_at e ws)

-- the equation of a branch of a definition, at as many ground types as the symbol has type
-- variables
pub record IsBranchAt (t : TaskTree) (m : DefinitionTree) (types : List Tree)
    (e : Tree) : Type 0 where
  pub index : ℕ
  pub branches : List ConstructorBranch
  pub matched : matched_parameter (quantifiers m.equation) (defining_body m.equation)
      ≡ Some (index, branches)
  pub place : ℕ
  pub branch : ConstructorBranch
  pub there : slice_get branches place ≡ Some branch
  pub as_many : length types ≡ (symbol_or t.symbols m.symbol).vars
  pub ground : All (IsTypeOver t 0) types
  pub is : e ≡ inst_types (branch_equation (symbol_or t.symbols m.symbol).args m.equation index
      branch) types
