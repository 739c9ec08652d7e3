-- What the equation of a branch says at types and closed terms.
use Rattle.std.specs.Prelude.{◌≡◌, ◌⊎◌, ℕ, List}
use Rattle.tasks.specs.trees.declared.Op.TheVariants.{Iff}
use Rattle.tasks.specs.trees.Tree.{Tree, Two, Three, Head, HFun, HPred, HEq, HJoin}
use Rattle.tasks.specs.trees.Binding.{inst_types, inst_many}
use Rattle.tasks.specs.Equations.{cells}
use Rattle.tr_recursion.specs.branch_instances.Chosen.{IsChosenOf}

-- a use of a symbol at a list of types, on a list of arguments
abbrev pub IsSymbolUse : ℕ → Tree → Tree → Tree → Type 0
IsSymbolUse k e zs ts = ((ty : Tree) × (e ≡ Three (HFun k) zs ts ty)) ⊎ (e ≡ Two (HPred k) zs ts)

-- of a use of a symbol, what the body at its types and arguments gives
pub record SaysChosen (k : ℕ) (body : Tree) (ys : List Tree) (e : Tree) : Type 0 where
  pub head : Head
  pub left : Tree
  pub right : Tree
  pub is : e ≡ Two head left right
  pub kind : (head ≡ HEq) ⊎ (head ≡ HJoin Iff)
  pub terms : List Tree
  pub use' : IsSymbolUse k left (cells ys) (cells terms)
  pub chosen : IsChosenOf (inst_many (inst_types body ys) terms) right
