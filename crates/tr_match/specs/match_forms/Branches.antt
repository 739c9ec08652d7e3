-- The branches of a typed `match`, as a list: each takes the scrutinee's type and gives what one
-- body gives.
use Rattle.std.specs.Prelude.{◌≡◌, List, [], ◌∷◌, ◌++◌, Option}
use Rattle.trees.specs.declared.Sort.TheVariants.{Pattern}
use Rattle.trees.specs.Tree.{Tree, Leaf, Two, HEnd, HCell, HArm}
use Rattle.trees.specs.Sorts.{sort_of, type_of, IsExpression}
use Rattle.tasks.specs.Vocabulary.{Vocabulary}
use Rattle.tasks.specs.Typing.{pattern_types}
use Rattle.images.specs.typing_laws.HasTyping.{HasTyping}

-- a pattern and a body
pub record ArmTree : Type 0 where
  pub pattern : Tree
  pub body : Tree

abbrev pub arms_tree : List ArmTree → Tree
arms_tree [] = Leaf HEnd
arms_tree (b ∷ bs) = Two HCell (Two HArm b.pattern b.body) (arms_tree bs)

pub record IsTypedBranch (v : Vocabulary) (types : List Tree) (ty : Option Tree) (first : Tree)
    (b : ArmTree) : Type 0 where
  pub pattern : sort_of b.pattern ≡ Pattern
  pub pattern_typed : HasTyping v types b.pattern
  pub pattern_type : type_of b.pattern ≡ ty
  pub body : IsExpression (sort_of b.body)
  pub body_typed : HasTyping v (pattern_types b.pattern ++ types) b.body
  pub body_sort : sort_of b.body ≡ sort_of first
  pub body_type : type_of b.body ≡ type_of first

abbrev pub AreTypedBranches : Vocabulary → List Tree → Option Tree → Tree → List ArmTree → Type 0
AreTypedBranches v types ty first [] = Unit {0}
AreTypedBranches v types ty first (b ∷ bs) =
    IsTypedBranch v types ty first b × AreTypedBranches v types ty first bs

-- the branches of a typed `match`, of which there is a first one
pub record IsMatchOf (v : Vocabulary) (types : List Tree) (s e : Tree) : Type 0 where
  pub first : ArmTree
  pub others : List ArmTree
  pub is : e ≡ arms_tree (first ∷ others)
  pub typed : AreTypedBranches v types (type_of s) first.body (first ∷ others)
