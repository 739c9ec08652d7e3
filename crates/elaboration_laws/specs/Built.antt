-- What is built in: `int`, and the types and constructors of tuples.
use Rattle.std.specs.Prelude.{◌≡◌, ◌⊎◌, ℕ, suc, true, List, slice_get, Some}
use Rattle.elab_groups.specs.tasks.Task.{SymbolTree, int_symbol}
use Rattle.elab_groups.specs.parts.Entries.{tuple_in}
use Rattle.elaboration_laws.specs.Lists.{is_built}
use Rattle.theory_states.specs.goal_tasks.Meaning.{AreTuples}

-- a type or the constructor of the tuples of a width
pub record IsOfTuple (symbols : List SymbolTree) (k : ℕ) : Type 0 where
  pub width : ℕ
  pub constructor : ℕ
  pub found : tuple_in symbols width ≡ Some constructor
  pub is : (k ≡ constructor) ⊎ (suc k ≡ constructor)

-- the entries of each width follow one another, and nothing else is built in but `int`
pub record IsBuiltRight (symbols : List SymbolTree) : Type 0 where
  pub int : slice_get symbols 0 ≡ Some int_symbol
  pub tuples : AreTuples symbols
  pub alone : (k : ℕ) (e : SymbolTree) → slice_get symbols k ≡ Some e → is_built e ≡ true
      → (k ≡ 0) ⊎ IsOfTuple symbols k
