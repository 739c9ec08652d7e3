-- A state after a clone: what the clone makes of a theory, beside what was visible (Why3 manual,
-- "theory cloning").
use Rattle.std.specs.Prelude.{◌≡◌, ◌≢◌, ◌⊎◌, ℕ, ◌<◌, ◌≤◌, List, [], ◌++◌, length, slice_get, All, AllPairs, Option, Some}
use Rattle.std.specs.List.{Contains}
use Rattle.elab_groups.specs.tasks.Task.{SymbolTree, DeclarationTree}
use Rattle.clones.specs.Mapped.{Map}
use Rattle.elab_groups.specs.surface.declared.declarations.Link.{Link}
use Rattle.theory_states.specs.Moves.{MoveTree, brought, handed}
use Rattle.elab_groups.specs.open_types.Scoped.{IsScopedEntry}
use Rattle.elaboration_laws.specs.Moves.{AreTypedMoves}
use Rattle.elaboration_laws.specs.Lists.{after}
use Rattle.theory_states.specs.goal_tasks.Theories.{GoalTree}
use Rattle.elaboration_laws.specs.Built.{IsBuiltRight}
use Rattle.theory_states.specs.declared.states.AxiomAt.{AxiomAt}
use Rattle.theory_states.specs.States.{KnownTree, StateTree, visible_in, visible_now}
use Rattle.elaboration_laws.specs.Sound.{others, IsSoundAmong, IsSoundAxiom}
use Rattle.elaboration_laws.specs.Cloning.{KeepsBuilt}
use Rattle.elaboration_laws.specs.Steps.{CopyStep, declarations_of, taken_of, made_from, StepFits}

-- the places of the declarations: those that were visible, those of other theories that the clone
-- takes over, and new ones
pub record AreClonedPlaces (c c' : StateTree) (t : KnownTree) : Type 0 where
  pub kept : (k : ℕ) → Contains c.opened.visible k → Contains c'.opened.visible k
  pub taken : (k : ℕ) (d : DeclarationTree) → Contains t.visible k → slice_get c.decls k ≡ Some d
      → d.theory ≢ t.path → Contains c'.opened.visible k
  pub new : (k : ℕ) → length c.decls ≤ k → k < length c'.decls → Contains c'.opened.visible k
  pub from : (k : ℕ) → Contains c'.opened.visible k
      → Contains c.opened.visible k ⊎ (Contains t.visible k ⊎ (length c.decls ≤ k))
  pub apart : (k : ℕ) (d : DeclarationTree) → Contains c'.opened.visible k
      → slice_get c.decls k ≡ Some d → d.theory ≡ t.path → Contains c.opened.visible k
  pub below : All (λ (k : ℕ). k < length c'.decls) c'.opened.visible
  pub once : AllPairs (λ j k. j ≢ k) c'.opened.visible

-- over the signature with further entries, of which the first ones are of tuples, a clone by steps
-- under a map, with the goals and axioms that it makes and the names that it brings
pub record IsAfterClone (c c' : StateTree) (t : KnownTree) (tuples more : List SymbolTree)
    (new : List DeclarationTree) (m : Map) (within : List ℕ) (ss : List CopyStep)
    (axioms : List AxiomAt) (goals : List GoalTree) (link : Link) (last : List ℕ)
    (alias : Option (List ℕ)) (moves : List MoveTree) : Type 0 where
  pub symbols : c'.symbols ≡ (c.symbols ++ tuples) ++ more
  pub decls : c'.decls ≡ c.decls ++ new
  pub of : All (λ (d : DeclarationTree). d.theory ≡ c.opened.path) new
  pub known : c'.known ≡ c.known
  pub path : c'.opened.path ≡ c.opened.path
  pub axioms_are : c'.opened.axioms ≡ c.opened.axioms ++ axioms
  pub goals_are : c'.opened.goals ≡ c.opened.goals ++ goals
  pub scope_is : c'.opened.scope ≡ brought link last alias moves c.opened.scope
  pub moves_are : c'.opened.moves ≡ c.opened.moves ++ handed link moves
  pub places : AreClonedPlaces c c' t
  pub visible : visible_now c'
      ≡ visible_now c ++ made_from m c.opened.path within (visible_now c) ss
  pub steps : declarations_of ss ≡ visible_in c t
  pub taken_are : taken_of ss ≡ others t.path (visible_in c t)

-- the map fits, and what the clone adds is sound after it
pub record IsSoundClone (c c' : StateTree) (tuples more : List SymbolTree) (m : Map)
    (within : List ℕ) (ss : List CopyStep) (axioms : List AxiomAt) (goals : List GoalTree)
    (moves : List MoveTree) : Type 0 where
  pub tupled : IsBuiltRight (c.symbols ++ tuples)
  pub built : IsBuiltRight c'.symbols
  pub scoped : All IsScopedEntry c'.symbols
  pub keeps : KeepsBuilt (c.symbols ++ tuples) m
  pub fit : All (StepFits (c.symbols ++ tuples) m ((c.symbols ++ tuples) ++ more) c.opened.path
      within (visible_now c)) ss
  pub typed_moves : AreTypedMoves (after c'.symbols [] (visible_now c')) moves
  pub sound_goals : All (IsSoundAmong c'.symbols (visible_now c')) goals
  pub sound_axioms : All (IsSoundAxiom c'.decls) axioms
