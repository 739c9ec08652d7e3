-- The first branch of a closed `match`, by its numbers in a draft, asked of what the `match` asks.
use Rattle.std.specs.Prelude.{◌≡◌, ◌≢◌, ℕ, true, IsTrue, List, []}
use Rattle.trees.specs.declared.TermId.{TermId}
use Rattle.trees.specs.declared.Sort.TheVariants.{Term}
use Rattle.trees.specs.Tree.{Tree, Two, Three, HCase, HCell, HArm, HFun}
use Rattle.trees.specs.Node.{tree_at, Holds}
use Rattle.trees.specs.Binding.{inst_many}
use Rattle.trees.specs.Sorts.{IsList}
use Rattle.tasks.specs.Task.{TaskTree}
use Rattle.tasks.specs.Roles.{role, is_constructor}
use Rattle.tasks.specs.Equations.{cells}
use Rattle.tasks.specs.Typing.{members}
use Rattle.tasks.specs.MatchTests.{bind}
use Rattle.tasks.specs.MatchTests.{test as match_test}
use Rattle.congruence.specs.kernel.rules.Forms.{equal}
use Rattle.evidence.specs.Drafts.{DraftTree, IsFormulaAt}
use Rattle.congruence.specs.Alike.{IsClosedAt, ArePair}
use Rattle.tr_inline.specs.inlining.branch_equations.Branches.{ConstructorBranch, bound_fields}
use Rattle.tr_recursion.specs.declared.constructor_matches.fields.Application.{Application}
use Rattle.tr_recursion.specs.declared.constructor_matches.branches.FirstBranch.{FirstBranch}
use Rattle.tr_recursion.specs.declared.constructor_matches.branches.OpenedBranch.{OpenedBranch}
use Rattle.tr_recursion.specs.branch_instances.Chosen.{branch_pattern, has_plain_fields}
use Rattle.tr_recursion.specs.constructor_matches.Fields.{IsClosedField, AreEach}

-- the numbers of the parts of a function's application
pub record IsApplicationAt (s : List Tree) (id : TermId) (p : Application) : Type 0 where
  pub types_held : Holds s p.types
  pub args_held : Holds s p.args
  pub type_held : Holds s p.ty
  pub terms : IsList Term (tree_at s p.args)
  pub is : tree_at s id ≡ Three (HFun p.function) (tree_at s p.types) (tree_at s p.args)
      (tree_at s p.ty)

-- the arguments of an application, or the parts of a constructor's pattern
abbrev pub part_members : Tree → List Tree
part_members (Three h types es ty) = members es
part_members e = []

-- a constructor on the projections of an application of it
pub record IsOwnApplication (d : DraftTree) (built scrutinee : TermId) : Type 0 where
  pub symbol : ℕ
  pub types : Tree
  pub type : Tree
  pub projections : List Tree
  pub args : List Tree
  pub is : tree_at d.trees built ≡ Three (HFun symbol) types (cells projections) type
  pub application : tree_at d.trees scrutinee ≡ Three (HFun symbol) types (cells args) type
  pub closed : IsClosedAt d built
  pub scrutinee_held : Holds d.trees scrutinee
  pub fields : AreEach (IsClosedField d.task) projections args

-- a closed `match`, with the numbers of its first branch's parts
pub record IsFirstBranch (d : DraftTree) (whole scrutinee : TermId)
    (first : FirstBranch) : Type 0 where
  pub closed : IsClosedAt d whole
  pub is : tree_at d.trees whole
      ≡ Two HCase (tree_at d.trees scrutinee)
      (Two HCell (Two HArm (tree_at d.trees first.pattern) (tree_at d.trees first.body))
      (tree_at d.trees first.others))
  pub scrutinee_held : Holds d.trees scrutinee
  pub pattern_held : Holds d.trees first.pattern
  pub body_held : Holds d.trees first.body
  pub others_held : Holds d.trees first.others

-- its pattern's test, and its body at the terms for the pattern's variables
pub record IsFirstOpened (d : DraftTree) (whole scrutinee : TermId) (first : FirstBranch)
    (o : OpenedBranch) : Type 0 where
  pub asked : IsFirstBranch d whole scrutinee first
  pub test : IsFormulaAt d o.test
  pub test_is : tree_at d.trees o.test
      ≡ match_test d.task (tree_at d.trees first.pattern) (tree_at d.trees scrutinee)
  pub inner : ArePair d whole o.inner
  pub inner_is : tree_at d.trees o.inner
      ≡ inst_many (tree_at d.trees first.body)
      (bind d.task (tree_at d.trees first.pattern) (tree_at d.trees scrutinee))

-- the branch is on the constructor of the application, and its body at the arguments is this
pub record IsHere (d : DraftTree) (scrutinee : TermId) (first : FirstBranch)
    (right : Tree) : Type 0 where
  pub branch : ConstructorBranch
  pub args : List Tree
  pub application : tree_at d.trees scrutinee
      ≡ Three (HFun branch.symbol) branch.types (cells args) branch.type
  pub pattern : tree_at d.trees first.pattern ≡ branch_pattern branch
  pub body : tree_at d.trees first.body ≡ branch.body
  pub plain : has_plain_fields branch ≡ true
  pub gives : right ≡ inst_many branch.body (bound_fields branch.fields args)

-- an equation of applications of two constructors
pub record AreOtherConstructors (t : TaskTree) (e : Tree) : Type 0 where
  pub one : ℕ
  pub two : ℕ
  pub one_types : Tree
  pub one_args : Tree
  pub one_type : Tree
  pub two_types : Tree
  pub two_args : Tree
  pub two_type : Tree
  pub is : e ≡ equal (Three (HFun one) one_types one_args one_type)
      (Three (HFun two) two_types two_args two_type)
  pub one_made : IsTrue (is_constructor (role t one))
  pub two_made : IsTrue (is_constructor (role t two))
  pub differ : one ≢ two
