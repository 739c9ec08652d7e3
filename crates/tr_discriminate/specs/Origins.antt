-- From which proposition a formula comes as an instance.
use Rattle.std.specs.Prelude.{◌≡◌, ◌⊎◌, ℕ, ◌+◌, List, [], ◌∷◌, length, slice_get, All, IsSomeAnd}
use Rattle.tasks.specs.trees.Tree.{Tree}
use Rattle.tasks.specs.trees.Binding.{inst_types}
use Rattle.tasks.specs.Task.{BodyTree, Says, DeclarationTree, PropositionTree}
use Rattle.tasks.specs.Valid.{VariablesBelow}
use Rattle.tr_discriminate.specs.instance_sets.Made.{IsTypeTree}

-- a formula is an instance of another one at types, as many as it has type variables
pub record IsTypeInstance (vars : ℕ) (a e : Tree) : Type 0 where
  pub types : List Tree
  pub long : length types ≡ vars
  pub kinds : All IsTypeTree types
  pub variables : VariablesBelow vars a
  pub is : e ≡ inst_types a types

abbrev pub IsSaidInstance : ℕ → BodyTree → Tree → Type 0
IsSaidInstance vars (Says a) e = IsTypeInstance vars a e
IsSaidInstance vars _ e = ⊥

-- it is one of what some declaration says
abbrev pub HasOrigin : List DeclarationTree → Tree → Type 0
HasOrigin [] e = ⊥
HasOrigin (d ∷ ds) e = IsSaidInstance d.vars d.body e ⊎ HasOrigin ds e

-- it is the instance at these types of the proposition at a place
abbrev pub IsInstanceThere : List PropositionTree → ℕ → List Tree → Tree → Type 0
IsInstanceThere ps place types e =
    IsSomeAnd (slice_get ps place) (λ p. (length types ≡ p.vars) × (e ≡ inst_types p.formula types))

-- propositions go on from a place as others do
abbrev pub AreFrom : List PropositionTree → ℕ → List PropositionTree → Type 0
AreFrom ps place qs = (k : ℕ) → slice_get ps (place + k) ≡ slice_get qs k
