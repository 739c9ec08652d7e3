-- What a theory that is cloned has of its own, in code, and the theory at a place.
use Rattle.std.specs.Prelude.{◌≡◌, ℕ, nat_eq, List, [], map, get_or}
use Rattle.indexmap.specs.IndexMap.{get}
use Rattle.tasks.specs.trees.Tree.{Tree}
use Rattle.tasks.specs.Task.{DeclarationTree}
use Rattle.theory_states.specs.declared.states.Typed.{Typed}
use Rattle.theory_states.specs.States.{KnownTree}
use Rattle.theory_states.specs.Meaning.{known_at}
use Rattle.clones.specs.clone_copies.Origins.{own_places, axioms_at}
use Rattle.theories.specs.declared.cloning.own.Own.{Own}

pub record IsOwnOf (ds : List DeclarationTree) (t : KnownTree) (o : Own) : Type 0 where
  pub path : o.path ≡ t.path
  pub visible : o.visible ≡ t.visible
  pub places : o.places.items ≡ own_places ds t
  pub axioms : get nat_eq o.axioms ≡ axioms_at t.axioms

-- what is where a list has no theory
abbrev pub no_theory : KnownTree
no_theory = record { path = []; visible = []; axioms = []; goals = []; moves = [] }

abbrev pub known_theory_at : List Tree → Typed → ℕ → KnownTree
known_theory_at s t k = get_or (map (known_at s) t.known) k no_theory
