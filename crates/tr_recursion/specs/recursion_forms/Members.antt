-- A definition by numbers, and the equation of a branch of it.
use Rattle.std.specs.Prelude.{◌≡◌, ℕ, List, All, Some}
use Rattle.trees.specs.declared.TermId.{TermId}
use Rattle.trees.specs.Tree.{Tree}
use Rattle.trees.specs.Node.{tree_at, trees_at, Holds}
use Rattle.trees.specs.Sorts.{sort_of}
use Rattle.trees.specs.binders.Visits.{HoldTypes}
use Rattle.tasks.specs.declared.facts.Fact.TheVariants.{Equation}
use Rattle.tasks.specs.Facts.{FactTree}
use Rattle.tr_inline.specs.inlining.branch_equations.Branches.{ConstructorBranch, constructor_branches, below_quantifiers, HasSides, branch_equation}
use Rattle.tr_recursion.specs.declared.recursion_forms.saying.Member.{Member}

pub record MemberIsHeld (s : List Tree) (m : Member) : Type 0 where
  pub args : HoldTypes s m.args.now
  pub equation : Holds s m.equation

abbrev pub member_branch_fact : List Tree → Member → ConstructorBranch → FactTree
member_branch_fact s m b = record {
  name = Equation m.symbol;
  vars = m.vars;
  formula =
      branch_equation (trees_at s m.args.now) (tree_at s m.equation) m.index b;
}

-- the branches of a list, each with a body of the sort of the sides of the definition's equation
pub record BranchesAreSided (s : List Tree) (m : Member) (arms : TermId) : Type 0 where
  pub branches : List ConstructorBranch
  pub are : constructor_branches (tree_at s arms) ≡ Some branches
  pub sided : All (λ (b : ConstructorBranch).
      HasSides (sort_of b.body) (below_quantifiers (tree_at s m.equation))) branches
