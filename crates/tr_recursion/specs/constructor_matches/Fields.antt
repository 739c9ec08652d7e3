-- Projections of a constructor's application and the fields that they give.
use Rattle.std.specs.Prelude.{◌≡◌, ℕ, List, [], ◌∷◌, slice_get, Some}
use Rattle.trees.specs.declared.TermId.{TermId}
use Rattle.trees.specs.declared.Sort.TheVariants.{Term}
use Rattle.trees.specs.Tree.{Tree, Leaf, Two, Three, HEnd, HCell, HFun}
use Rattle.trees.specs.Node.{tree_at, Holds}
use Rattle.trees.specs.Sorts.{sort_of, type_of}
use Rattle.tasks.specs.Task.{TaskTree, ConstructorTree}
use Rattle.tasks.specs.Roles.{ProjectionRole, role}
use Rattle.tasks.specs.Typing.{members}
use Rattle.evidence.specs.Drafts.{DraftTree}
use Rattle.congruence.specs.kernel.Right.{IsGroundExpression}

-- a projection of a constructor's application, and the field that it gives
pub record IsFieldOf (t : TaskTree) (p z : Tree) : Type 0 where
  pub projection : ℕ
  pub types : Tree
  pub result : Tree
  pub con : ConstructorTree
  pub place : ℕ
  pub con_types : Tree
  pub args : Tree
  pub con_type : Tree
  pub is : p ≡ Three (HFun projection) types
      (Two HCell (Three (HFun con.symbol) con_types args con_type) (Leaf HEnd)) result
  pub role : role t projection ≡ ProjectionRole con place
  pub there : slice_get (members args) place ≡ Some z

-- both closed terms of one type
pub record IsClosedField (t : TaskTree) (p z : Tree) : Type 0 where
  pub field : IsFieldOf t p z
  pub projected : IsGroundExpression t p
  pub given : IsGroundExpression t z
  pub term : sort_of p ≡ Term
  pub given_term : sort_of z ≡ Term
  pub type : type_of z ≡ type_of p

-- two lists of the same length, related place by place
abbrev pub AreEach : {A : Type 0} → (A → A → Type 0) → List A → List A → Type 0
AreEach R [] [] = Unit {0}
AreEach R (p ∷ ps) (z ∷ zs) = R p z × AreEach R ps zs
AreEach R _ zs = ⊥

-- a projection and its field, by their numbers
pub record IsFieldPair (d : DraftTree) (a b : TermId) : Type 0 where
  pub projected : Holds d.trees a
  pub given : Holds d.trees b
  pub field : IsClosedField d.task (tree_at d.trees a) (tree_at d.trees b)
