-- What the numbers of a branch and of a match stand for.
use Rattle.std.specs.Prelude.{◌≡◌, ℕ, true, List, [], Option, Some, None}
use Rattle.std.specs.List.{list_all}
use Rattle.trees.specs.declared.Sort.TheVariants.{Kind, Pattern}
use Rattle.trees.specs.Tree.{Tree}
use Rattle.trees.specs.Node.{tree_at, Holds}
use Rattle.trees.specs.Sorts.{sort_of, IsList}
use Rattle.tasks.specs.Typing.{members}
use Rattle.tr_inline.specs.inlining.branch_equations.Branches.{ConstructorBranch, is_plain_field, constructor_branches}
use Rattle.tr_recursion.specs.declared.recursion_forms.branches.Branch.{Branch}
use Rattle.tr_recursion.specs.declared.recursion_forms.branches.Matched.{Matched}

abbrev pub constructor_branch_at : List Tree → Branch → ConstructorBranch
constructor_branch_at s b = record {
  symbol = b.symbol;
  types = tree_at s b.types;
  fields =
      members (tree_at s b.fields);
  type = tree_at s b.ty;
  body = tree_at s b.body;
}

-- the numbers are held: of a list of types, a list of variables and wildcards, a type, and the body
pub record IsBranchHeld (s : List Tree) (b : Branch) : Type 0 where
  pub types : Holds s b.types
  pub kinds : IsList Kind (tree_at s b.types)
  pub fields : Holds s b.fields
  pub plain : list_all is_plain_field (members (tree_at s b.fields)) ≡ true
  pub type : Holds s b.ty
  pub kind : sort_of (tree_at s b.ty) ≡ Kind
  pub body : Holds s b.body

-- the branches, or none
abbrev pub branches_or_none : Option (List ConstructorBranch) → List ConstructorBranch
branches_or_none (Some bs) = bs
branches_or_none None = []

abbrev pub matched_at : List Tree → Matched → ℕ × List ConstructorBranch
matched_at s m = (m.index, branches_or_none (constructor_branches (tree_at s m.arms)))

-- each branch is on a constructor
abbrev pub HasBranches : Tree → Type 0
HasBranches e = constructor_branches e ≡ Some (branches_or_none (constructor_branches e))
