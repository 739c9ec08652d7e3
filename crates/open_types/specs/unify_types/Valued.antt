-- The unknowns whose types have no unknown left.
use Rattle.std.specs.Prelude.{◌≡◌, ℕ, ◌<◌, true, false, List, length, get_or, Some, None, nat_eq}
use Rattle.std.specs.HashMap.{HashMap, get}
use Rattle.trees.specs.declared.TermId.{TermId}
use Rattle.trees.specs.Tree.{Tree}
use Rattle.trees.specs.Node.{tree_at}
use Rattle.open_types.specs.declared.unify_types.bindings.Bound.{Bound}
use Rattle.open_types.specs.unify_types.Assigned.{Variable, assign}
use Rattle.open_types.specs.unify_types.Bound.{Binding, resolve, IsTriangular, bound_over, BindingsHeld, AreUnderSubstitution, has_sought}

-- each value in the map is the unknown's type, in which no unknown is left
abbrev pub AreValues : {S : Type 0} → ℕ → List Binding → List Tree → HashMap ℕ TermId S → Type 0
AreValues rigid bs s m = (u : ℕ) (id : TermId) → get nat_eq m u ≡ Some id
    → (id.0 < length s) × (tree_at s id ≡ assign rigid (resolve rigid bs) (Variable u))
    × (has_sought rigid None (tree_at s id) ≡ false)

-- an unknown that has no value has an unknown left in its type
abbrev pub IsTreated : {S : Type 0} → ℕ → List Binding → HashMap ℕ TermId S → ℕ → Type 0
IsTreated rigid bs m u = get nat_eq m u ≡ None
    → has_sought rigid None (assign rigid (resolve rigid bs) (Variable u)) ≡ true

-- the values of the first bindings
pub record AreValued {S T : Type 0} (rigid : ℕ) (s : List Tree) (bs : List Bound)
    (known : HashMap ℕ TermId S) (values : HashMap ℕ TermId T) (count : ℕ) : Type 0 where
  pub bound : BindingsHeld s bs
  pub triangular : IsTriangular rigid (bound_over s bs)
  pub resolved : AreUnderSubstitution rigid (bound_over s bs) s known
  pub found : AreValues rigid (bound_over s bs) s values
  pub treated : (i : ℕ) (d : Bound) → i < count
      → IsTreated rigid (bound_over s bs) values (get_or bs i d).unknown
