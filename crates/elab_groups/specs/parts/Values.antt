-- The values of a solution, by the numbers of type variables.
use Rattle.std.specs.Prelude.{◌≡◌, ℕ, ◌+◌, ◌<◌, ◌≤◌, List, get_or, drop, length, slice_get, All, Option, Some, None}
use Rattle.tasks.specs.trees.declared.TermId.{TermId}
use Rattle.tasks.specs.trees.declared.Sort.TheVariants.{Kind}
use Rattle.tasks.specs.trees.Tree.{Tree, Leaf, HTyVar}
use Rattle.tasks.specs.trees.Node.{tree_at, Holds}
use Rattle.tasks.specs.trees.Sorts.{sort_of}
use Rattle.tasks.specs.trees.Binding.{TyVar}
use Rattle.tasks.specs.Meaning.{trees_at}
use Rattle.open_types.specs.unify_types.Assigned.{assign}
use Rattle.open_types.specs.unify_types.Pairs.{IsSolution}
use Rattle.open_types.specs.declared.unify_types.Solution.{Solution}
use Rattle.open_types.specs.unify_types.Value.{value_of}
use Rattle.open_types.specs.Patterns.{Notes, taken}
use Rattle.open_types.specs.Drafts.{HoldsType, MatchHeld, instances}
use Rattle.elab_groups.specs.parts.Elaborated.{IsDetermined}
use Rattle.elab_groups.specs.declared.parts.solution.Formula.{Formula}
use Rattle.elab_groups.specs.declared.parts.solution.TypingFault.{TypingFault}
use Rattle.elab_groups.specs.declared.parts.solution.TypingFault.TheVariants.{Memory, Clash, Undetermined}
use Rattle.open_types.specs.declared.unify_types.UnifyFault.{UnifyFault}
use Rattle.open_types.specs.declared.unify_types.UnifyFault.TheVariants as unify

-- the values of a solution are types
abbrev pub AreKinds : List Tree → ℕ → Solution → Type 0
AreKinds s rigid solution = (u : ℕ) (id : TermId) → rigid ≤ u → value_of solution u ≡ Some id
    → Holds s id × (sort_of (tree_at s id) ≡ Kind)

-- the declaration's own type variable, or the value of an unknown
pub record IsValueAt (s : List Tree) (rigid : ℕ) (solution : Solution) (i : ℕ)
    (id : TermId) : Type 0 where
  pub own : i < rigid → tree_at s id ≡ Leaf (HTyVar i)
  pub value : rigid ≤ i → value_of solution i ≡ Some id

abbrev pub IsTypeNumbered : List Tree → ℕ → Solution → ℕ → Option TermId → Type 0
IsTypeNumbered s rigid solution i None = (rigid ≤ i) × (value_of solution i ≡ None)
IsTypeNumbered s rigid solution i (Some id) = HoldsType s id × IsValueAt s rigid solution i id

pub record AreSolutionValues (s : List Tree) (rigid : ℕ) (solution : Solution) (n : ℕ)
    (types : List TermId) : Type 0 where
  pub count : length types ≡ n
  pub held : All (HoldsType s) types
  pub values : (i : ℕ) (d : TermId) → i < n → IsValueAt s rigid solution i (get_or types i d)

-- the notes after so many takers, which are the declaration's own type variables
abbrev pub notes_after : ℕ → Notes → Notes
notes_after rigid ns =
    record { equations = ns.equations; takers = drop rigid ns.takers; matches = ns.matches }

-- the types of all type variables at every solution, by their numbers
pub record AreSolvedTypes (s : List Tree) (rigid : ℕ) (ns : Notes)
    (types : List TermId) : Type 0 where
  pub determined : IsDetermined rigid ns
  pub held : All (HoldsType s) types
  pub count : length types ≡ rigid + taken ns
  pub each : (f : ℕ → Tree) → IsSolution rigid f ns.equations → (j : ℕ) → j < length types
      → get_or (trees_at s types) j (TyVar j) ≡ assign rigid f (TyVar j)

-- the first unknown without a value, and the token of the node that takes it
abbrev pub IsFirstOpen : ℕ → Solution → List ℕ → TypingFault → Type 0
IsFirstOpen rigid solution takers Memory = Unit {0}
IsFirstOpen rigid solution takers (Undetermined token) =
    (i : ℕ) × (rigid ≤ i) × (slice_get takers i ≡ Some token) × (value_of solution i ≡ None)
    × ((j : ℕ) → rigid ≤ j → j < i → (id : TermId) × (value_of solution j ≡ Some id))
IsFirstOpen rigid solution takers _ = ⊥

abbrev pub typing_fault : UnifyFault → TypingFault
typing_fault unify.Memory = Memory
typing_fault (unify.Clash k) = Clash k

-- a match at types
abbrev pub match_instance : List Tree → ℕ × List Tree → ℕ × List Tree
match_instance types m = (m.0, instances types m.1)

pub record FormulaHeld (s : List Tree) (it : Formula) : Type 0 where
  pub tree : Holds s it.tree
  pub matches : All (MatchHeld s) it.matches
