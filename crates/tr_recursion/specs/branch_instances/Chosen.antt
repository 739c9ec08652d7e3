-- A `match` of a constructor's application, and the body of the constructor's branch there.
use Rattle.std.specs.Prelude.{◌≡◌, ℕ, ◌==◌, true, Bool, if◌then◌else◌, List, [], ◌∷◌, Option, Some, None}
use Rattle.std.specs.List.{list_all}
use Rattle.tasks.specs.trees.Tree.{Tree, Leaf, Two, Three, HEnd, HCell, HArm, HCase, HFun, HPatCon}
use Rattle.tasks.specs.trees.Binding.{inst_many}
use Rattle.tasks.specs.Equations.{cells}
use Rattle.tr_inline.specs.inlining.branch_equations.Branches.{ConstructorBranch, is_plain_field, bound_fields}

-- branches on constructors, as a tree
abbrev pub branch_pattern : ConstructorBranch → Tree
branch_pattern b = Three (HPatCon b.symbol) b.types (cells b.fields) b.type

abbrev pub arms_of : List ConstructorBranch → Tree
arms_of [] = Leaf HEnd
arms_of (b ∷ bs) = Two HCell (Two HArm (branch_pattern b) b.body) (arms_of bs)

-- on variables and wildcards
abbrev pub has_plain_fields : ConstructorBranch → Bool
has_plain_fields b = list_all is_plain_field b.fields

-- the first branch on a constructor
abbrev pub chosen_branch : ℕ → List ConstructorBranch → Option ConstructorBranch
chosen_branch c [] = None
chosen_branch c (b ∷ bs) = if b.symbol == c then Some b else chosen_branch c bs

-- The body of the constructor's branch, with the arguments of a constructor's application in the
-- place of the pattern's variables.
pub record IsChosen (scrutinee arms right : Tree) : Type 0 where
  pub branches : List ConstructorBranch
  pub are : arms ≡ arms_of branches
  pub plain : list_all has_plain_fields branches ≡ true
  pub branch : ConstructorBranch
  pub args : List Tree
  pub is : scrutinee ≡ Three (HFun branch.symbol) branch.types (cells args) branch.type
  pub chosen : chosen_branch branch.symbol branches ≡ Some branch
  pub gives : right ≡ inst_many branch.body (bound_fields branch.fields args)

-- what a whole `match` of such an application gives
pub record IsChosenOf (whole right : Tree) : Type 0 where
  pub scrutinee : Tree
  pub arms : Tree
  pub is : whole ≡ Two HCase scrutinee arms
  pub chosen : IsChosen scrutinee arms right
