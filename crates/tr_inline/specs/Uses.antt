-- Uses of a symbol.
use Rattle.std.specs.Prelude.{◌≡◌, ◌⊎◌, ℕ, List, [], Option, Some, None}
use Rattle.trees.specs.declared.TermId.{TermId}
use Rattle.trees.specs.Tree.{Tree, Two, Three, HFun, HPred}
use Rattle.trees.specs.Node.{tree_at, Holds}
use Rattle.trees.specs.declared.Sort.TheVariants.{Kind, Term}
use Rattle.trees.specs.Sorts.{WellSorted, IsList}
use Rattle.tasks.specs.Task.{SymbolTree, TaskTree}
use Rattle.tasks.specs.Typing.{TypedUnder, IsUse}
use Rattle.tasks.specs.Valid.{IsGround}
use Rattle.tasks.specs.Vocabulary.{of_task}
use Rattle.tr_inline.specs.declared.uses.UseParts.{UseParts}

-- a use of the symbol at a list of types, on a list of arguments
abbrev pub IsUseOf : ℕ → Tree → Tree → Tree → Type 0
IsUseOf k e zs ts = ((ty : Tree) × (e ≡ Three (HFun k) zs ts ty)) ⊎ (e ≡ Two (HPred k) zs ts)

-- the numbers of its types and of its arguments
pub record AreUseParts (s : List Tree) (k : ℕ) (e : TermId) (u : UseParts) : Type 0 where
  pub types_held : Holds s u.types
  pub args_held : Holds s u.args
  pub is : IsUseOf k (tree_at s e) (tree_at s u.types) (tree_at s u.args)

abbrev pub IsNoUse : ℕ → Tree → Type 0
IsNoUse k e = (zs ts : Tree) → IsUseOf k e zs ts → ⊥

-- the use that a tree is, if it is one
abbrev pub IsFoundUse : List Tree → ℕ → TermId → Option UseParts → Type 0
IsFoundUse s k e (Some u) = AreUseParts s k e u
IsFoundUse s k e None = IsNoUse k (tree_at s e)

-- the lists of a closed use
pub record IsClosedUse (t : TaskTree) (e : SymbolTree) (zs ts : Tree) : Type 0 where
  pub use' : IsUse e zs ts
  pub types_list : IsList Kind zs
  pub types_typed : TypedUnder (of_task t) [] zs
  pub types_ground : IsGround zs
  pub types_sorted : WellSorted zs
  pub args_list : IsList Term ts
  pub args_typed : TypedUnder (of_task t) [] ts
  pub args_ground : IsGround ts
  pub args_sorted : WellSorted ts
